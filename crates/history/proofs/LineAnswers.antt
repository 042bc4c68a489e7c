-- For `IsRun` and what passes were told: what was done for lines, caller by caller and place by place.
use Rattle.std.proofs.Common.{◌≡◌, ℕ, zero, suc, ◌+◌, List, [], ◌∷◌, zip, slice_get, Some, Contains, refl, sym, ap, subst, ◌∙◌, inl, inr, arith}
use Rattle.std.proofs.lemmas.List.Elements.{Contains-append_left, Contains-append_right, Contains-append_cases}
use Rattle.std.proofs.lemmas.Option.{slice_get_within}
use Rattle.split_merge.proofs.Counting.{contains_cases, contains_later}
use Rattle.trace_reader.specs.declared.trace.TraceLine.{TraceLine}
use Rattle.history.specs.declared.items.Item.{Item}
use Rattle.history.specs.Histories.{lines_of}
use Rattle.history.specs.Runs.{answered_lines, ComesAfter, ComeAfterNamed}

-- ---- two lists side by side

zip_at : {A B : Type 0} (xs : List A) (ys : List B) (pair : A × B) → Contains (zip xs ys) pair
    → (place : ℕ) × (slice_get xs place ≡ Some pair.0) × (slice_get ys place ≡ Some pair.1)
zip_at [] ys pair has = absurd (omega (arith, has.1))
zip_at (x ∷ xs) [] pair has = absurd (omega (arith, has.1))
zip_at {A} {B} (x ∷ xs) (y ∷ ys) pair has = elim (contains_cases (x, y) (zip xs ys) pair has) [
  | inl same ↦ (0, ap (λ (p : A × B). Some p.0) same, ap (λ (p : A × B). Some p.1) same)
  | inr later ↦ let at = zip_at xs ys pair later in (suc at.0, at.1, at.2)
]

zip_has : {A B : Type 0} (xs : List A) (ys : List B) (place : ℕ) (x : A) (y : B) → slice_get xs place ≡ Some x → slice_get ys place ≡ Some y
    → Contains (zip xs ys) (x, y)
zip_has [] ys place x y first second = absurd (omega (arith, slice_get_within [] place x first))
zip_has (u ∷ xs) [] place x y first second = absurd (omega (arith, slice_get_within [] place y second))
zip_has {A} {B} (u ∷ xs) (v ∷ ys) zero x y first second =
    let one : u ≡ x = cc in
    let two : v ≡ y = cc in
    subst (λ (b : B). Contains ((u, v) ∷ zip xs ys) (x, b)) two
    (subst (λ (a : A). Contains ((u, v) ∷ zip xs ys) (a, v)) one (0, omega arith, refl))
zip_has (u ∷ xs) (v ∷ ys) (suc place) x y first second = contains_later (u, v) (zip xs ys) (x, y) (zip_has xs ys place x y first second)

-- ---- callers, one after another

-- an item answers a line at this place of a caller's, so far behind the first
record AnswersAt {X : Type 0} (own : ℕ → X → List Item) (lines : List TraceLine) (first : ℕ) (all : List X) (pair : TraceLine × Item) : Type 0 where
  caller : ℕ
  place : ℕ
  one : X
  its : slice_get all caller ≡ Some one
  line : slice_get (lines_of lines (first + caller)) place ≡ Some pair.0
  item : slice_get (own (first + caller) one) place ≡ Some pair.1

answers_at : {X : Type 0} (own : ℕ → X → List Item) (lines : List TraceLine) (first : ℕ) (all : List X) (pair : TraceLine × Item)
    → Contains (answered_lines own lines first all) pair → AnswersAt own lines first all pair
answers_at own lines first [] pair has = absurd (omega (arith, has.1))
answers_at own lines first (one ∷ others) pair has =
    elim (Contains-append_cases (zip (lines_of lines first) (own first one)) (answered_lines own lines (first + 1) others) pair has) [
      | inl here ↦
          let at = zip_at (lines_of lines first) (own first one) pair here in
          let same : first + 0 ≡ first = omega arith in
          record {
            caller = 0;
            place = at.0;
            one = one;
            its = refl;
            line = ap (λ (k : ℕ). slice_get (lines_of lines k) at.0) same ∙ at.1;
            item = ap (λ (k : ℕ). slice_get (own k one) at.0) same ∙ at.2;
          }
      | inr later ↦
          let at = answers_at own lines (first + 1) others pair later in
          let same : first + suc at.caller ≡ first + 1 + at.caller = omega arith in
          record {
            caller = suc at.caller;
            place = at.place;
            one = at.one;
            its = at.its;
            line = ap (λ (k : ℕ). slice_get (lines_of lines k) at.place) same ∙ at.line;
            item = ap (λ (k : ℕ). slice_get (own k at.one) at.place) same ∙ at.item;
          }
    ]

has_answer : {X : Type 0} (own : ℕ → X → List Item) (lines : List TraceLine) (first : ℕ) (all : List X) (caller place : ℕ) (one : X)
    (line : TraceLine) (item : Item) → slice_get all caller ≡ Some one → slice_get (lines_of lines (first + caller)) place ≡ Some line
    → slice_get (own (first + caller) one) place ≡ Some item → Contains (answered_lines own lines first all) (line, item)
has_answer own lines first [] caller place one line item its asked did = absurd (omega (arith, slice_get_within [] caller one its))
has_answer {X} own lines first (other ∷ others) zero place one line item its asked did =
    let same : first ≡ first + 0 = omega arith in
    let it : other ≡ one = cc in
    Contains-append_left (zip (lines_of lines first) (own first other)) (answered_lines own lines (first + 1) others) (line, item)
    (zip_has (lines_of lines first) (own first other) place line item
    (ap (λ (k : ℕ). slice_get (lines_of lines k) place) same ∙ asked)
    (ap (λ (x : X). slice_get (own first x) place) it ∙ ap (λ (k : ℕ). slice_get (own k one) place) same ∙ did))
has_answer own lines first (other ∷ others) (suc caller) place one line item its asked did =
    let same : first + 1 + caller ≡ first + suc caller = omega arith in
    Contains-append_right (zip (lines_of lines first) (own first other)) (answered_lines own lines (first + 1) others) (line, item)
    (has_answer own lines (first + 1) others caller place one line item its
    (ap (λ (k : ℕ). slice_get (lines_of lines k) place) same ∙ asked)
    (ap (λ (k : ℕ). slice_get (own k one) place) same ∙ did))

-- ---- what a line names was done before, by callers and places

abbrev pub AreToldAt : {X : Type 0} → (ℕ → X → List Item) → List TraceLine → List X → Type 0
AreToldAt {X} own lines all = (caller place : ℕ) (one : X) (item : Item) (line : TraceLine) (number : ℕ)
    → slice_get all caller ≡ Some one → slice_get (own caller one) place ≡ Some item
    → slice_get (lines_of lines caller) place ≡ Some line → line.after ≡ Some number
    → (teller there : ℕ) (other : X) (said : Item) (named : TraceLine)
    → slice_get all teller ≡ Some other → slice_get (own teller other) there ≡ Some said
    → slice_get (lines_of lines teller) there ≡ Some named → named.number ≡ number → ComesAfter said item

none_before : (caller : ℕ) → 0 + caller ≡ caller
none_before caller = omega arith

pub told_at : {X : Type 0} (own : ℕ → X → List Item) (lines : List TraceLine) (all : List X) → ComeAfterNamed (answered_lines own lines 0 all)
    → AreToldAt own lines all
told_at {X} own lines all told caller place one item line number its did asks names teller there other said named other_is other_did other_asks same =
    told (line, item) (named, said) (has caller place one line item its asks did) (has teller there other named said other_is other_asks other_did)
    (names ∙ ap Some (sym same))
  where
    has : (caller place : ℕ) (one : X) (line : TraceLine) (item : Item) → slice_get all caller ≡ Some one
        → slice_get (lines_of lines caller) place ≡ Some line → slice_get (own caller one) place ≡ Some item
        → Contains (answered_lines own lines 0 all) (line, item)
    has caller place one line item its asks did = has_answer own lines 0 all caller place one line item its
        (ap (λ (k : ℕ). slice_get (lines_of lines k) place) (none_before caller) ∙ asks)
        (ap (λ (k : ℕ). slice_get (own k one) place) (none_before caller) ∙ did)

pub told_from : {X : Type 0} (own : ℕ → X → List Item) (lines : List TraceLine) (all : List X) → AreToldAt own lines all
    → ComeAfterNamed (answered_lines own lines 0 all)
told_from {X} own lines all told heard said has says names =
    let mine = answers_at own lines 0 all heard has in
    let theirs = answers_at own lines 0 all said says in
    told mine.caller mine.place mine.one heard.1 heard.0 said.0.number mine.its (did heard mine) (asked heard mine) names
    theirs.caller theirs.place theirs.one said.1 said.0 theirs.its (did said theirs) (asked said theirs) refl
  where
    did : (pair : TraceLine × Item) (at : AnswersAt own lines 0 all pair) → slice_get (own at.caller at.one) at.place ≡ Some pair.1
    did pair at = ap (λ (k : ℕ). slice_get (own k at.one) at.place) (sym (none_before at.caller)) ∙ at.item

    asked : (pair : TraceLine × Item) (at : AnswersAt own lines 0 all pair) → slice_get (lines_of lines at.caller) at.place ≡ Some pair.0
    asked pair at = ap (λ (k : ℕ). slice_get (lines_of lines k) at.place) (sym (none_before at.caller)) ∙ at.line
