-- For `linux_6_16_is_as_recorded`: its goal.
use Rattle.linux_rules.proofs.Linux_6_16.{all_of_linux_6_16}
use Rattle.linux_rules.proofs.recorded.linux_6_16_is_as_recorded.Goals as goal

pub returns : goal.returns
returns c = all_of_linux_6_16
