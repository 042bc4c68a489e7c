-- For `changes_are_of_the_profile`: its goals.
use Rattle.linux_beside.proofs.RangeChanges.{protects_as_profile, protects_its_range, refused_protects, refused_seals, seals_as_profile, seals_its_range}
use Rattle.linux_beside.proofs.changing.changes_are_of_the_profile.Goals as goal

pub returns-clause-protects : goal.returns-clause-protects
returns-clause-protects c = protects_its_range

pub returns-clause-protected : goal.returns-clause-protected
returns-clause-protected c = protects_as_profile

pub returns-clause-seals : goal.returns-clause-seals
returns-clause-seals c = seals_its_range

pub returns-clause-sealed : goal.returns-clause-sealed
returns-clause-sealed c = seals_as_profile

pub returns-clause-protects_prefix : goal.returns-clause-protects_prefix
returns-clause-protects_prefix c = refused_protects

pub returns-clause-seals_prefix : goal.returns-clause-seals_prefix
returns-clause-seals_prefix c = refused_seals
