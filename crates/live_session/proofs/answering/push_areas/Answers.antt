-- The proof of `push_areas`: where no space is open, the list is that of no area.
use Rattle.std.proofs.Common.{◌≡◌, ◌++◌, Option, subst, sym, unwrap_or, vec_capacity, vec_len}
use Rattle.std.specs.Prelude.{OnErr, OnOk}
use Rattle.live_session.specs.Sessions.{Opened, areas_text, opened_by}
use Rattle.live_session.specs.Internal.Lacking.{LacksForList}
use Rattle.live_session.proofs.Shown.{lacks_list, no_areas, shows_none}
use Rattle.live_session.proofs.answering.push_areas.Goals as goal

pub returns-in-None-clause-text : goal.returns-in-None-clause-text
returns-in-None-clause-text c = λ s.
    subst (λ (o : Option Opened). OnOk c.push_count.result (c.push_count.new.text.items ≡ c.args.piece.now.items ++ areas_text (unwrap_or o (opened_by s))))
    (sym c.in-None.is) (shows_none c.push_count.result c.args.piece.now.items c.push_count.new.text.items s c.push_count.ensures.ok)

pub returns-in-None-clause-room : goal.returns-in-None-clause-room
returns-in-None-clause-room c = λ s.
    subst (λ (o : Option Opened). OnErr c.push_count.result (LacksForList (unwrap_or o (opened_by s)) (areas_text (unwrap_or o (opened_by s)))
    (vec_capacity c.args.piece.now) (vec_len c.args.piece.now)))
    (sym c.in-None.is) (lacks_list c.push_count.result (opened_by s) _ (vec_capacity c.args.piece.now) (vec_len c.args.piece.now) (sym (no_areas s)) c.push_count.ensures.room)
