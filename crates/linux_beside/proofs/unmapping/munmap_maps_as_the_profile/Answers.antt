-- For `munmap_maps_as_the_profile`: its goals.
use Rattle.linux_beside.proofs.MunmapLemmas.{refused_keeps_pages, unmaps_as_profile, unmaps_its_range}
use Rattle.linux_beside.proofs.unmapping.munmap_maps_as_the_profile.Goals as goal

pub returns-clause-range : goal.returns-clause-range
returns-clause-range c = unmaps_its_range

pub returns-clause-refused : goal.returns-clause-refused
returns-clause-refused c = refused_keeps_pages

pub returns-clause-profile : goal.returns-clause-profile
returns-clause-profile c = unmaps_as_profile
