-- For `without_leading_spaces`: its goals.
use Rattle.maps_read.proofs.Words.{boundary_at_part}
use Rattle.maps_read.proofs.fields.without_leading_spaces.Goals as goal

pub split_at-requires : goal.split_at-requires
split_at-requires c = rw (c.leading_spaces.ensures, c.as_bytes.ensures.value) (boundary_at_part c.args.text.now c.utf8.text)
