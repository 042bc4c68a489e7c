-- For `after_prefix`: its goals.
use Rattle.std.proofs.Common.{ℕ, ◌≡◌, ◌-◌, ◌∙◌, sym, ap, refl, false, true, List, length, drop, get_or, nat_eq, Bor, MatchOption, Option, Some, None, arith}
use Rattle.std.specs.List.{starts_with}
use Rattle.std.specs.Str.Pattern.{FindsTextPrefix, StripsPrefix}
use Rattle.std.proofs.lemmas.Bool.{false_from_ne_true}
use Rattle.std.proofs.lemmas.Bool.Decides.{Decides-eqb}
use Rattle.std.proofs.lemmas.Slice.Eq.{starts_is}
use Rattle.flag_table.proofs.Begins.{begins_is, last_differs}
use Rattle.flag_table.proofs.kind.after_prefix.Goals as goal

stripped : (text name : List ℕ) (found : Option (Bor (List ℕ)))
    → MatchOption found (FindsTextPrefix name text None) (λ rest. StripsPrefix (FindsTextPrefix name) text rest.now)
    → MatchOption found (starts_with nat_eq text name ≡ false)
    (λ rest. (starts_with nat_eq text name ≡ true) × (rest.now ≡ drop (length name) text))
stripped text name None lacks = false_from_ne_true (starts_with nat_eq text name)
    (λ begins. lacks (drop (length name) text) (begins_is text name begins))
stripped text name (Some rest) strips = (
  (starts_is Decides-eqb text name _ refl).1 _ strips.1.1,
  strips.2 ∙ ap (λ (k : ℕ). drop k text) strips.1.0,
)

pub returns-then-as_bytes-last : goal.returns-then-as_bytes-last
returns-then-as_bytes-last c =
    let last = length c.args.name.now - 1 in
    last_differs c.args.text.now c.args.name.now last (omega (arith, c.requires))
    (λ same. c.if-as_bytes-last.true (ap (λ (t : List ℕ). get_or t last 0) c.as_bytes.ensures.value ∙ same
    ∙ sym (ap (λ (t : List ℕ). get_or t last 0) c.as_bytes-2.ensures.value)))

pub returns : goal.returns
returns c = stripped c.args.text.now c.args.name.now c.strip_prefix.result c.strip_prefix.ensures.cases
