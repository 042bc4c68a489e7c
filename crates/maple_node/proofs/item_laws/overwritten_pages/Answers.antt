-- For the law `overwritten_pages`.
use Rattle.maple_node.proofs.Pages.{page_within, page_free, page_below, page_above}
use Rattle.maple_node.proofs.item_laws.overwritten_pages.Goals as goal

pub returns-clause-slot : goal.returns-clause-slot
returns-clause-slot c = page_within

pub returns-clause-gap : goal.returns-clause-gap
returns-clause-gap c = page_free

pub returns-clause-below : goal.returns-clause-below
returns-clause-below c = page_below

pub returns-clause-above : goal.returns-clause-above
returns-clause-above c = page_above
