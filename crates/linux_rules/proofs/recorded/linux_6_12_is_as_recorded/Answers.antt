-- For `linux_6_12_is_as_recorded`: its goal.
use Rattle.linux_rules.proofs.Linux_6_12.{all_of_linux_6_12}
use Rattle.linux_rules.proofs.recorded.linux_6_12_is_as_recorded.Goals as goal

pub returns : goal.returns
returns c = all_of_linux_6_12
