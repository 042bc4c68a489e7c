-- For `search`: starts in gaps of entries are starts of free pages.
use Rattle.std.proofs.Common.{ℕ, ◌≡◌, ◌≢◌, ◌<◌, ◌≤◌, ◌+◌, ◌-◌, Bool, true, false, ◌&&◌, ◌||◌, List, [], ◌∷◌, ◌++◌, map, Option, Some, None, ◌⊎◌, refl, sym, ap, subst, ◌∙◌, arith, inl, inr}
use Rattle.std.specs.Prelude.{nat_eq, nat_le, if◌then◌else◌}
use Rattle.std.proofs.lemmas.Bool.{cases_lt, cases_eq, cases_Bool}
use Rattle.std.proofs.lemmas.Bool.Decides.{nat_tests}
use Rattle.mm_types.specs.Searches.{is_clear_of}
use Rattle.maple_node.specs.declared.item.NodeItem.{NodeItem}
use Rattle.maple_node.specs.Nodes.{items_end, Ascends, item_gap}
use Rattle.maple_node.specs.Trees.{Pair, pairs_from, ApartFrom}
use Rattle.maple_gap.specs.declared.window.Side.{Side}
use Rattle.maple_gap.specs.declared.window.Side.TheVariants.{Low, High}
use Rattle.maple_gap.specs.declared.window.Window.{Window}
use Rattle.maple_gap.specs.Gaps.{span_of, fits}
use Rattle.maple_gap.specs.Internal.Searches.{may_have_room, edge, spot, pick, best, IsOutermost}
use Rattle.maple_gap.proofs.Best.{room_of, of_room, Placed, spot_from, spot_some, spot_none}

-- so many pages from a start on lie in a gap of entries that begin at a page, and in the window
abbrev pub FitsIn : Window → ℕ → List NodeItem → ℕ → Type 0
FitsIn window start [] s = ⊥
FitsIn window start (x ∷ xs) s = ((x.word ≡ 0) × Placed window start x.end s) ⊎ FitsIn window x.end xs s

-- the least or the greatest for which this holds, or none where it holds of none
abbrev pub IsSought : Side → (ℕ → Type 0) → Option ℕ → Type 0
IsSought side F None = (s : ℕ) → F s → ⊥
IsSought Low F (Some b) = F b × ((s : ℕ) → F s → b ≤ s)
IsSought High F (Some b) = F b × ((s : ℕ) → F s → s ≤ b)

-- in one entry
gap_of_entry : (start : ℕ) (x : NodeItem) → x.word ≡ 0 → item_gap true start x ≡ x.end - start
gap_of_entry start x gap =
    let test : nat_eq x.word 0 ≡ true = grind (arith, nat_tests) in ap (λ b. if b then x.end - start else 0) test

no_gap : (start : ℕ) (x : NodeItem) → x.word ≢ 0 → item_gap true start x ≡ 0
no_gap start x slot =
    let test : nat_eq x.word 0 ≡ false = grind (arith, nat_tests) in ap (λ b. if b then x.end - start else 0) test

is_gap : (window : Window) (start : ℕ) (x : NodeItem) → 1 ≤ window.len → may_have_room window true start x ≡ true → x.word ≡ 0
is_gap window start x some may = elim (cases_eq x.word 0) as (λ _. x.word ≡ 0) [
  | inl gap ↦ gap
  | inr slot ↦ let long = (room_of window true start x may).gap in let none = no_gap start x slot in absurd (omega arith)
]

has_room : (window : Window) (start : ℕ) (x : NodeItem) (s : ℕ) → x.word ≡ 0 → Placed window start x.end s → may_have_room window true start x ≡ true
has_room window start x s gap is =
    let long = gap_of_entry start x gap in
    let a = is.above in
    let b = is.within in
    let d = is.low in
    let e = is.high in
    of_room window true start x (record { gap = omega arith; part = omega arith })

extreme : (side : Side) (window : Window) (start : ℕ) (x : NodeItem) → x.word ≡ 0 → Placed window start x.end (edge side window start x)
    → IsSought side (λ s. (x.word ≡ 0) × Placed window start x.end s) (Some (edge side window start x))
extreme Low window start x gap here = ((gap, here), λ s is. let a = is.1.above in let b = is.1.low in omega arith)
extreme High window start x gap here = ((gap, here), λ s is. let a = is.1.within in let b = is.1.high in omega arith)

sought_entry : (side : Side) (window : Window) (start : ℕ) (x : NodeItem) → 1 ≤ window.len
    → IsSought side (λ s. (x.word ≡ 0) × Placed window start x.end s) (spot side window start x)
sought_entry side window start x some =
    let F : ℕ → Type 0 = λ s. (x.word ≡ 0) × Placed window start x.end s in
    elim (cases_Bool (may_have_room window true start x)) as (λ _. IsSought side F (spot side window start x)) [
      | inl may ↦
          let is = spot_some side window start x may in
          let here = (spot_from side window start x (edge side window start x) some is).placed in
          subst (λ (o : Option ℕ). IsSought side F o) (sym is) (extreme side window start x (is_gap window start x some may) here)
      | inr out ↦
          subst (λ (o : Option ℕ). IsSought side F o) (sym (spot_none side window start x out))
          (λ s is. let may = has_room window start x s is.0 is.1 in absurd (cc))
    ]

-- in lower pages and in higher ones
sought_both : (side : Side) (F G : ℕ → Type 0) (o p : Option ℕ) → ((s t : ℕ) → F s → G t → s ≤ t) → IsSought side F o → IsSought side G p
    → IsSought side (λ s. F s ⊎ G s) (pick side o p)
sought_both Low F G None None order f g = λ s is. elim is [ inl a ↦ f s a | inr b ↦ g s b ]
sought_both High F G None None order f g = λ s is. elim is [ inl a ↦ f s a | inr b ↦ g s b ]
sought_both Low F G None (Some d) order f g = (inr g.0, λ s is. elim is as (λ _. d ≤ s) [ inl a ↦ absurd (f s a) | inr b ↦ g.1 s b ])
sought_both High F G None (Some d) order f g = (inr g.0, λ s is. elim is as (λ _. s ≤ d) [ inl a ↦ absurd (f s a) | inr b ↦ g.1 s b ])
sought_both Low F G (Some b) None order f g = (inl f.0, λ s is. elim is as (λ _. b ≤ s) [ inl a ↦ f.1 s a | inr d ↦ absurd (g s d) ])
sought_both High F G (Some b) None order f g = (inl f.0, λ s is. elim is as (λ _. s ≤ b) [ inl a ↦ f.1 s a | inr d ↦ absurd (g s d) ])
sought_both Low F G (Some b) (Some d) order f g = (inl f.0, λ s is. elim is as (λ _. b ≤ s) [ inl a ↦ f.1 s a | inr e ↦ order b s f.0 e ])
sought_both High F G (Some b) (Some d) order f g = (inr g.0, λ s is. elim is as (λ _. s ≤ d) [ inl a ↦ order s d a g.0 | inr e ↦ g.1 s e ])

fits_above : (window : Window) (start : ℕ) (xs : List NodeItem) (s : ℕ) → Ascends start xs → FitsIn window start xs s → start ≤ s
fits_above window start [] s ascends is = absurd is
fits_above window start (x ∷ xs) s ascends is =
    let past = ascends.0 in
    elim is as (λ _. start ≤ s) [
      | inl here ↦ here.1.above
      | inr there ↦ let later = fits_above window x.end xs s ascends.1 there in omega arith
    ]

fits_window : (window : Window) (start : ℕ) (xs : List NodeItem) (s : ℕ) → FitsIn window start xs s → (window.lo ≤ s) × (s + window.len ≤ window.hi)
fits_window window start [] s is = absurd is
fits_window window start (x ∷ xs) s is = elim is as (λ _. (window.lo ≤ s) × (s + window.len ≤ window.hi)) [
  | inl here ↦ (here.1.low, here.1.high)
  | inr there ↦ fits_window window x.end xs s there
]

-- what is sought among entries
pub best_sought : (side : Side) (window : Window) (start : ℕ) (xs : List NodeItem) → 1 ≤ window.len → Ascends start xs
    → IsSought side (FitsIn window start xs) (best side window start xs)
unfolding best
best_sought side window start [] some ascends = λ s is. is
best_sought side window start (x ∷ xs) some ascends =
    sought_both side (λ s. (x.word ≡ 0) × Placed window start x.end s) (FitsIn window x.end xs) (spot side window start x) (best side window x.end xs)
    (λ s t here there. let a = here.1.within in let b = fits_above window x.end xs t ascends.1 there in omega arith)
    (sought_entry side window start x some) (best_sought side window x.end xs some ascends.1)

-- the pair of an entry does not have the pages, or it is a gap
le_of : (a b : ℕ) → nat_le a b ≡ true → a ≤ b
le_of a b is = grind (arith, nat_tests)

of_le : (a b : ℕ) → a ≤ b → nat_le a b ≡ true
of_le a b is = grind (arith, nat_tests)

and_both : (a b : Bool) → (a && b) ≡ true → (a ≡ true) × (b ≡ true)
and_both true b is = (refl, is)
and_both false b is = absurd (cc)

or_either : (a b : Bool) → (a || b) ≡ true → (a ≡ true) ⊎ (b ≡ true)
or_either true b is = inl refl
or_either false b is = inr is

or_left : (a b : Bool) → a ≡ true → (a || b) ≡ true
or_left a b is = rw is refl

or_right : (a b : Bool) → b ≡ true → (a || b) ≡ true
or_right true b is = refl
or_right false b is = is

free_cons : (start len s : ℕ) (x : NodeItem) (xs : List NodeItem) → is_clear_of (map span_of (pairs_from start (x ∷ xs))) len s
    ≡ ((if nat_eq x.word 0 then true else (nat_le (s + len) start || nat_le x.end s)) && is_clear_of (map span_of (pairs_from x.end xs)) len s)
free_cons start len s x xs =
    let pair : Pair = record { lo = start; hi = x.end; slot = x.word - 1 } in
    let rest = pairs_from x.end xs in
    elim (nat_eq x.word 0) as (λ b. is_clear_of (map span_of ((if b then [] else (pair ∷ [])) ++ rest)) len s
    ≡ ((if b then true else (nat_le (s + len) start || nat_le x.end s)) && is_clear_of (map span_of rest) len s)) [ true ↦ refl | false ↦ refl ]

record Free (start len s : ℕ) (x : NodeItem) (xs : List NodeItem) : Type 0 where
  pub here : x.word ≢ 0 → (s + len ≤ start) ⊎ (x.end ≤ s)
  pub rest : is_clear_of (map span_of (pairs_from x.end xs)) len s ≡ true

free_of : (start len s : ℕ) (x : NodeItem) (xs : List NodeItem) → is_clear_of (map span_of (pairs_from start (x ∷ xs))) len s ≡ true → Free start len s x xs
free_of start len s x xs is =
    let test = (if nat_eq x.word 0 then true else (nat_le (s + len) start || nat_le x.end s)) in
    let both = and_both test (is_clear_of (map span_of (pairs_from x.end xs)) len s) (sym (free_cons start len s x xs) ∙ is) in
    record {
      here = λ slot.
          let none : nat_eq x.word 0 ≡ false = grind (arith, nat_tests) in
          let told : (nat_le (s + len) start || nat_le x.end s) ≡ true =
          sym (ap (λ b. if b then true else (nat_le (s + len) start || nat_le x.end s)) none) ∙ both.0 in
          elim (or_either (nat_le (s + len) start) (nat_le x.end s) told) as (λ _. (s + len ≤ start) ⊎ (x.end ≤ s)) [
            | inl low ↦ inl (le_of (s + len) start low)
            | inr high ↦ inr (le_of x.end s high)
          ];
      rest = both.1;
    }

of_free : (start len s : ℕ) (x : NodeItem) (xs : List NodeItem) → (x.word ≢ 0 → (s + len ≤ start) ⊎ (x.end ≤ s)) → is_clear_of (map span_of (pairs_from x.end xs)) len s ≡ true
    → is_clear_of (map span_of (pairs_from start (x ∷ xs))) len s ≡ true
of_free start len s x xs here rest =
    let other = is_clear_of (map span_of (pairs_from x.end xs)) len s in
    let test : Bool → Bool = λ b. if b then true else (nat_le (s + len) start || nat_le x.end s) in
    free_cons start len s x xs ∙ ap (λ b. test (nat_eq x.word 0) && b) rest ∙
    elim (cases_eq x.word 0) as (λ _. (test (nat_eq x.word 0) && true) ≡ true) [
      | inl gap ↦ let yes_gap : nat_eq x.word 0 ≡ true = grind (arith, nat_tests) in ap (λ b. test b && true) yes_gap
      | inr slot ↦
          let none : nat_eq x.word 0 ≡ false = grind (arith, nat_tests) in
          let told : (nat_le (s + len) start || nat_le x.end s) ≡ true =
          elim (here slot) as (λ _. (nat_le (s + len) start || nat_le x.end s) ≡ true) [
            | inl low ↦ or_left (nat_le (s + len) start) (nat_le x.end s) (of_le (s + len) start low)
            | inr high ↦ or_right (nat_le (s + len) start) (nat_le x.end s) (of_le x.end s high)
          ] in
          ap (λ b. test b && true) none ∙ ap (λ b. b && true) told
    ]

-- pages below all entries are free
free_below : (start len s : ℕ) (xs : List NodeItem) → Ascends start xs → s + len ≤ start → is_clear_of (map span_of (pairs_from start xs)) len s ≡ true
free_below start len s [] ascends below = refl
free_below start len s (x ∷ xs) ascends below =
    let past = ascends.0 in
    of_free start len s x xs (λ slot. inl below) (free_below x.end len s xs ascends.1 (omega arith))

-- pages in a gap are free
fits_free : (window : Window) (start : ℕ) (xs : List NodeItem) (s : ℕ) → Ascends start xs → FitsIn window start xs s
    → is_clear_of (map span_of (pairs_from start xs)) window.len s ≡ true
fits_free window start [] s ascends is = absurd is
fits_free window start (x ∷ xs) s ascends is = elim is as (λ _. is_clear_of (map span_of (pairs_from start (x ∷ xs))) window.len s ≡ true) [
  | inl here ↦
      of_free start window.len s x xs (λ slot. absurd (slot here.0)) (free_below x.end window.len s xs ascends.1 here.1.within)
  | inr there ↦
      of_free start window.len s x xs (λ slot. inr (fits_above window x.end xs s ascends.1 there)) (fits_free window x.end xs s ascends.1 there)
]

-- and free pages lie in one gap, since two gaps never follow each other
free_fits : (window : Window) (before start : ℕ) (xs : List NodeItem) (s : ℕ) → 1 ≤ window.len → Ascends start xs → ApartFrom before xs → start ≤ s
    → window.lo ≤ s → s + window.len ≤ window.hi → window.hi ≤ items_end start xs → is_clear_of (map span_of (pairs_from start xs)) window.len s ≡ true
    → FitsIn window start xs s
free_fits window before start [] s some ascends apart above low high limit free = absurd (omega arith)
free_fits window before start (x ∷ xs) s some ascends apart above low high limit free =
    let told = free_of start window.len s x xs free in
    elim (cases_lt s x.end) as (λ _. FitsIn window start (x ∷ xs) s) [
      | inr past ↦ inr (free_fits window x.word x.end xs s some ascends.1 apart.1 past low high limit told.rest)
      | inl within ↦
          let gap : x.word ≡ 0 = elim (cases_eq x.word 0) as (λ _. x.word ≡ 0) [
            | inl gap ↦ gap
            | inr slot ↦ elim (told.here slot) as (λ _. x.word ≡ 0) [ inl below ↦ absurd (omega arith) | inr ending_after ↦ absurd (omega arith) ]
          ] in
          inl (
            gap,
            record {
              above = above;
              within = whole xs ascends.1 apart.1 limit gap within told.rest;
              low = low;
              high = high;
            },
          )
    ] where
      whole : (xs : List NodeItem) → Ascends x.end xs → ApartFrom x.word xs → window.hi ≤ items_end x.end xs → x.word ≡ 0 → s < x.end
          → is_clear_of (map span_of (pairs_from x.end xs)) window.len s ≡ true → s + window.len ≤ x.end
      whole [] ascends apart limit gap within free = omega arith
      whole (y ∷ ys) ascends apart limit gap within free =
          let past = ascends.0 in
          elim ((free_of x.end window.len s y ys free).here (λ both. apart.0 gap both)) as (λ _. s + window.len ≤ x.end) [
            | inl below ↦ below
            | inr ending_after ↦ absurd (omega arith)
          ]

-- what fits, as a test
of_fits : (pairs : List Pair) (len lo hi s : ℕ) → fits pairs len lo hi s ≡ true → (lo ≤ s) × (s + len ≤ hi) × (is_clear_of (map span_of pairs) len s ≡ true)
unfolding fits
of_fits pairs len lo hi s is =
    let first = and_both (nat_le lo s) (nat_le (s + len) hi && is_clear_of (map span_of pairs) len s) is in
    let second = and_both (nat_le (s + len) hi) (is_clear_of (map span_of pairs) len s) first.1 in
    (le_of lo s first.0, le_of (s + len) hi second.0, second.1)

fits_of : (pairs : List Pair) (len lo hi s : ℕ) → lo ≤ s → s + len ≤ hi → is_clear_of (map span_of pairs) len s ≡ true → fits pairs len lo hi s ≡ true
unfolding fits
fits_of pairs len lo hi s low high free =
    ap (λ b. b && (nat_le (s + len) hi && is_clear_of (map span_of pairs) len s)) (of_le lo s low)
    ∙ ap (λ b. b && is_clear_of (map span_of pairs) len s) (of_le (s + len) hi high) ∙ free

-- what is sought among entries is sought among free pages
pub record Same (window : Window) (entries : List NodeItem) : Type 0 where
  pub free : (s : ℕ) → FitsIn window 0 entries s → fits (pairs_from 0 entries) window.len window.lo window.hi s ≡ true
  pub lies : (s : ℕ) → fits (pairs_from 0 entries) window.len window.lo window.hi s ≡ true → FitsIn window 0 entries s

same_fits : (window : Window) (entries : List NodeItem) → 1 ≤ window.len → Ascends 0 entries → ApartFrom 1 entries → window.hi ≤ items_end 0 entries
    → Same window entries
same_fits window entries some ascends apart limit = record {
  free = λ s is.
      let both = fits_window window 0 entries s is in
      fits_of (pairs_from 0 entries) window.len window.lo window.hi s both.0 both.1 (fits_free window 0 entries s ascends is);
  lies = λ s is.
      let told = of_fits (pairs_from 0 entries) window.len window.lo window.hi s is in
      free_fits window 1 0 entries s some ascends apart (omega arith) told.0 told.1 limit told.2;
}

not_true : (b : Bool) → (b ≡ true → ⊥) → b ≡ false
not_true true none = absurd (none refl)
not_true false none = refl

to_answer : (side : Side) (F : ℕ → Type 0) (passes : ℕ → Bool) (result : Option ℕ) → ((s : ℕ) → F s → passes s ≡ true)
    → ((s : ℕ) → passes s ≡ true → F s) → IsSought side F result → IsOutermost side passes result
to_answer Low F passes None to from is = λ s. not_true (passes s) (λ pass. is s (from s pass))
to_answer High F passes None to from is = λ s. not_true (passes s) (λ pass. is s (from s pass))
to_answer Low F passes (Some b) to from is = record {
  passing = to b is.0;
  none_lesser = λ m less. not_true (passes m) (λ pass. let order = is.1 m (from m pass) in omega arith);
}
to_answer High F passes (Some b) to from is = record {
  passing = to b is.0;
  none_greater = λ m more. not_true (passes m) (λ pass. let order = is.1 m (from m pass) in omega arith);
}

pub answer_of : (side : Side) (window : Window) (entries : List NodeItem) → 1 ≤ window.len → Ascends 0 entries → ApartFrom 1 entries
    → window.hi ≤ items_end 0 entries → IsOutermost side (fits (pairs_from 0 entries) window.len window.lo window.hi) (best side window 0 entries)
answer_of side window entries some ascends apart limit =
    let same = same_fits window entries some ascends apart limit in
    to_answer side (FitsIn window 0 entries) (fits (pairs_from 0 entries) window.len window.lo window.hi) (best side window 0 entries)
    same.free same.lies (best_sought side window 0 entries some ascends)
