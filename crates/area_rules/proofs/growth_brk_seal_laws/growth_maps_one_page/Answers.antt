-- For `growth_maps_one_page`: its goals.
use Rattle.area_rules.proofs.Touching.{touched_free, page_above, touched_page, touched_others, touched_reply, touch_refused}
use Rattle.area_rules.proofs.growth_brk_seal_laws.growth_maps_one_page.Goals as goal

pub returns-clause-free : goal.returns-clause-free
returns-clause-free c = touched_free

pub returns-clause-above : goal.returns-clause-above
returns-clause-above c = page_above

pub returns-clause-grown : goal.returns-clause-grown
returns-clause-grown c = touched_page

pub returns-clause-others : goal.returns-clause-others
returns-clause-others c =
    λ config space page access other ready does. touched_others config space page access ready does other

pub returns-clause-reply : goal.returns-clause-reply
returns-clause-reply c = touched_reply

pub returns-clause-refused : goal.returns-clause-refused
returns-clause-refused c = touch_refused
