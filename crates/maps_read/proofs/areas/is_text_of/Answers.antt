-- For `is_text_of`: its goals.
use Rattle.std.proofs.Common.{◌≡◌, ◌∙◌, ◌∷◌, ◌++◌, [], ℕ, List, length, bytes_eq, ap, arith}
use Rattle.std.proofs.lemmas.Grind.{common_steps}
use Rattle.mm_types.specs.MapsText.{area_text}
use Rattle.maps_read.specs.Retracing.{area_of}
use Rattle.maps_read.proofs.Texts.{stripped, not_stripped}
use Rattle.maps_read.proofs.areas.is_text_of.Goals as goal

pub returns : goal.returns
returns c =
    let whole : c.in_ok-printed.printed.items ≡ area_text c.args.files.now (area_of (length c.args.files.now) c.args.line.now) = grind (arith, common_steps) in
    not_stripped c.as_slice.result.now c.args.text.now c.in-None.ensures.cases
    ∙ ap (λ (p : List ℕ). bytes_eq p (c.args.text.now ++ 10 ∷ [])) (c.as_slice.ensures.value ∙ whole)

pub returns-in-Some : goal.returns-in-Some
returns-in-Some c =
    let whole : c.in_ok-printed.printed.items ≡ area_text c.args.files.now (area_of (length c.args.files.now) c.args.line.now) = grind (arith, common_steps) in
    c.eq.ensures ∙ stripped c.as_slice.result.now c.in-Some.shown.now c.args.text.now c.in-Some.ensures.cases.0 c.in-Some.ensures.cases.1
    ∙ ap (λ (p : List ℕ). bytes_eq p (c.args.text.now ++ 10 ∷ [])) (c.as_slice.ensures.value ∙ whole)
