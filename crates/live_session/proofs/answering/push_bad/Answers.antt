-- The proof of `push_bad`: the parts of its text.
use Rattle.std.proofs.Common.{◌≡◌, ◌++◌, ◌∙◌, List, ℕ, ap, append_assoc, codes, decimal}
use Rattle.text_lexer.specs.Causes.{cause_name, cause_number}
use Rattle.live_session.specs.Sessions.{bad_text}
use Rattle.live_session.proofs.answering.push_bad.Goals as goal

regroup : (p a d b n s m e : List ℕ) → ((((((p ++ a) ++ d) ++ b) ++ n) ++ s) ++ m) ++ e ≡ p ++ (a ++ (d ++ (b ++ (n ++ (s ++ (m ++ e))))))
regroup p a d b n s m e = simp append_assoc

pub returns-clause-text : goal.returns-clause-text
unfolding bad_text
returns-clause-text c =
    let number : decimal c.from.result ≡ decimal (cause_number c.args.cause) = ap decimal (c.from.ensures ∙ c.number.ensures) in
    let name : c.as_bytes.result.now ≡ cause_name c.args.cause = c.as_bytes.ensures.value ∙ c.name.ensures in
    let all = regroup c.args.piece.now.items (codes "trace line ") (decimal c.args.line) (codes " cause ") (decimal (cause_number c.args.cause)) (codes " ")
    (cause_name c.args.cause) (codes "\n") in
    c.in_ok-push-2.ensures.items ∙ ap (λ (t : List ℕ). t ++ codes "\n") (c.in_ok-extend_from_slice-3.ensures.items
    ∙ ap (λ (t : List ℕ). t ++ c.as_bytes.result.now) (c.in_ok-push.ensures.items
    ∙ ap (λ (t : List ℕ). t ++ codes " ") (c.in_ok-push_decimal-2.ensures.ok
    ∙ ap (λ (t : List ℕ). t ++ decimal c.from.result) (c.in_ok-extend_from_slice-2.ensures.items
    ∙ ap (λ (t : List ℕ). t ++ codes " cause ") (c.in_ok-push_decimal.ensures.ok
    ∙ ap (λ (t : List ℕ). t ++ decimal c.args.line) c.in_ok-extend_from_slice.ensures.items))))
    ∙ ap (λ (m : List ℕ). ((((((c.args.piece.now.items ++ codes "trace line ") ++ decimal c.args.line) ++ codes " cause ") ++ decimal c.from.result) ++ codes " ") ++ m)) name
    ∙ ap (λ (n : List ℕ). ((((((c.args.piece.now.items ++ codes "trace line ") ++ decimal c.args.line) ++ codes " cause ") ++ n) ++ codes " ") ++ cause_name c.args.cause)) number)
    ∙ all
