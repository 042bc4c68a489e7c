-- For `start_of` of mapping.rt: its goals.
use Rattle.std.proofs.Common.{arith}
use Rattle.split_merge.proofs.Refusing.{some_pages}
use Rattle.sys_map.proofs.mapping.start_of.Goals as goal

pub place-requires-clause-some_pages : goal.place-requires-clause-some_pages
place-requires-clause-some_pages g c = omega (arith, some_pages c.args.args.now.len (λ none. omega (arith, c.requires.some_bytes)), c.pages_of.ensures.value)
