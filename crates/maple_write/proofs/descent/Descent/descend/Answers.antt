-- For `descend`: at first no level is kept.
use Rattle.std.proofs.Common.{refl, arith}
use Rattle.node_slots.specs.Built.{words_at}
use Rattle.maple_write.proofs.descent.Descent.descend.Goals as goal

pub loop-begin-init : goal.loop-begin-init
loop-begin-init c =
    let level = c.above-begin.ensures.level in
    record {
      high = omega arith;
      tree = refl;
      page = refl;
      begins = c.above-begin.ensures.begins (words_at c.args.writer.now) c.args.self.now.page c.requires.within;
      places = record { each = λ other order within few. absurd (omega arith) };
    }
