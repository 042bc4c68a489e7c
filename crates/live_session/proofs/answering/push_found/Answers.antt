-- The proof of `push_found`: where no space is open, no area is found.
use Rattle.std.proofs.Common.{ℕ, ◌+◌, ◌<◌, ◌++◌, ◌∙◌, List, Option, ap, length, subst, sym, unwrap_or, vec_capacity, vec_len}
use Rattle.live_session.specs.Sessions.{Opened, found_text, opened_by}
use Rattle.live_session.specs.Internal.Lacking.{found_line}
use Rattle.live_session.proofs.Shown.{none_found, none_line, where_err}
use Rattle.live_session.proofs.answering.push_found.Goals as goal

pub returns-in_ok-extend_from_slice-in-None-clause-text : goal.returns-in_ok-extend_from_slice-in-None-clause-text
returns-in_ok-extend_from_slice-in-None-clause-text c = λ s.
    c.in_ok-extend_from_slice-in-None.ensures.items
    ∙ ap (λ (t : List ℕ). c.args.piece.now.items ++ t)
    (sym (ap (λ (o : Option Opened). found_text (unwrap_or o (opened_by s)) c.args.address) c.in-None.is ∙ none_found s c.args.address))

pub returns-in_err-extend_from_slice-in-None-clause-room : goal.returns-in_err-extend_from_slice-in-None-clause-room
returns-in_err-extend_from_slice-in-None-clause-room c = λ s.
    where_err (vec_capacity c.args.piece.now < vec_len c.args.piece.now + length (found_line (unwrap_or c.args.space.now (opened_by s)) c.args.address)) c.from_residual.result
    (subst (λ (t : List ℕ). vec_capacity c.args.piece.now < vec_len c.args.piece.now + length t)
    (sym (ap (λ (o : Option Opened). found_line (unwrap_or o (opened_by s)) c.args.address) c.in-None.is ∙ none_line s c.args.address))
    c.in_err-extend_from_slice-in-None.ensures.full)
