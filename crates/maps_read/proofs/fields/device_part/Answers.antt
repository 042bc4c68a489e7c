-- For `device_part`: its goals.
use Rattle.std.proofs.Common.{◌<◌, ◌^◌, arith}
use Rattle.maps_read.proofs.Words.{half_fits}
use Rattle.maps_read.proofs.fields.device_part.Goals as goal

pub overflow_cast-result : goal.overflow_cast-result
overflow_cast-result c =
    let small : c.in_ok-part.part < 2 ^ 32 = half_fits c.args.word.now c.in_ok-part.part c.in_ok-part.ensures in
    omega arith
