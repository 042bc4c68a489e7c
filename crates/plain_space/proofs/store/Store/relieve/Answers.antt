-- For `Store::relieve` of store.rt: its goals.
use Rattle.std.proofs.Common.{◌≡◌, ◌<◌, [], List, length, sym, refl, ap, ◌∙◌, arith}
use Rattle.std.proofs.lemmas.Bool.{leb-false}
use Rattle.std.proofs.lemmas.List.{get_or_read}
use Rattle.mm_types.specs.declared.area.Record.{Record}
use Rattle.plain_space.proofs.Filling.{all_filled}
use Rattle.plain_space.proofs.store.Store.relieve.Goals as goal

pub returns-else-is_full-clause-stays : goal.returns-else-is_full-clause-stays
returns-else-is_full-clause-stays c =
    let chunks : List (List Record) = c.args.self.now.chunks.items in
    let place = c.args.place in
    let len : c.args.self.now.chunks.len ≡ length chunks = c.args.self.now.chunks.ok.0 in
    let within : place < length chunks = omega (arith, len, c.requires.within) in
    let read = get_or_read chunks place c.index.result.now within c.index.ensures [] in
    let few : length c.index.result.now < 1024 = leb-false 1024 (length c.index.result.now) (sym c.is_full.ensures ∙ c.if-is_full.false) in
    let none = c.in_default.ensures.cases in
    record {
      sane = record {
        roomy = record {
          chunks = omega (arith, c.requires.roomy.chunks, none.0, none.1);
          spares = omega (arith, c.requires.roomy.spares, c.pop.ensures.capacity, none.0, none.1);
          enough = omega (arith, c.requires.roomy.enough, none.0, none.1);
        };
        filled = all_filled chunks place within c.requires.others (omega (arith, c.requires.large, ap length read), omega (arith, few, ap length read));
      };
      room = refl;
    }
