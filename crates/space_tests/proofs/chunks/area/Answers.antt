-- For `area` of chunks.rt: it is valid.
use Rattle.std.proofs.Common.{refl, arith}
use Rattle.mm_types.specs.Records.{holds_all}
use Rattle.space_tests.proofs.chunks.area.Goals as goal

pub returns-clause-valid : goal.returns-clause-valid
unfolding holds_all
returns-clause-valid c = record {
  some_pages = c.requires.some_pages;
  below_end = omega arith;
  allowed = refl;
  anonymous = λ none. (refl, refl);
  backed = λ other. absurd (other refl);
}
