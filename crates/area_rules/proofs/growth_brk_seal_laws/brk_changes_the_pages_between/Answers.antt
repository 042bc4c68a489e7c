-- For `brk_changes_the_pages_between`: its goals.
use Rattle.area_rules.proofs.Breaks.{brk_raised, brk_free, brk_lowered, brk_kept, brk_asked, brk_reply}
use Rattle.area_rules.proofs.Stepping.{step_keeps_break}
use Rattle.area_rules.proofs.growth_brk_seal_laws.brk_changes_the_pages_between.Goals as goal

pub returns-clause-raised : goal.returns-clause-raised
returns-clause-raised c = brk_raised

pub returns-clause-free : goal.returns-clause-free
returns-clause-free c = brk_free

pub returns-clause-lowered : goal.returns-clause-lowered
returns-clause-lowered c = brk_lowered

pub returns-clause-kept : goal.returns-clause-kept
returns-clause-kept c = brk_kept

pub returns-clause-asked : goal.returns-clause-asked
returns-clause-asked c = brk_asked

pub returns-clause-reply : goal.returns-clause-reply
returns-clause-reply c = brk_reply

pub returns-clause-others : goal.returns-clause-others
returns-clause-others c = step_keeps_break
