-- For the law `overwritten_pages`: the slot that parts of pairs give a page.
use Rattle.std.proofs.Common.{ℕ, ◌≡◌, ◌≢◌, ◌<◌, ◌≤◌, ◌-◌, min, max, Bool, true, false, ◌&&◌, if◌then◌else◌, nat_eq, List, [], ◌∷◌, ◌++◌, Some, None, refl, sym, ap, ◌∙◌, arith, inl, inr, ◌⊎◌}
use Rattle.std.specs.Prelude.{nat_lt, nat_le}
use Rattle.std.specs.List.{flat_map}
use Rattle.std.proofs.lemmas.Bool.{cases_lt}
use Rattle.std.proofs.lemmas.Bool.Decides.{nat_tests}
use Rattle.maple_node.specs.Trees.{Pair, pair_of}
use Rattle.maple_node.specs.Pairs.{pair_below, pair_from, overwritten, pair_has_page, paired_slot}

-- whether a pair has a page
has : (page : ℕ) (pair : Pair) → pair.lo ≤ page → page < pair.hi → pair_has_page page pair ≡ true
has page pair begins ends =
    let low : nat_le pair.lo page ≡ true = grind (arith, nat_tests) in
    let high : nat_lt page pair.hi ≡ true = grind (arith, nat_tests) in
    rw (low, high) refl

has_below : (page : ℕ) (pair : Pair) → page < pair.lo → pair_has_page page pair ≡ false
has_below page pair below =
    let low : nat_le pair.lo page ≡ false = grind (arith, nat_tests) in
    rw low refl

and_false : (b : Bool) → b && false ≡ false
and_false true = refl
and_false false = refl

has_above : (page : ℕ) (pair : Pair) → pair.hi ≤ page → pair_has_page page pair ≡ false
has_above page pair above =
    let high : nat_lt page pair.hi ≡ false = grind (arith, nat_tests) in
    rw high (and_false (nat_le pair.lo page))

-- the slot of the first pair, where it has the page, and otherwise that of the others
slot-first : (page : ℕ) (pair : Pair) (pairs : List Pair) → pair.lo ≤ page → page < pair.hi → paired_slot page (pair ∷ pairs) ≡ Some pair.slot
slot-first page pair pairs begins ends = rw (has page pair begins ends) refl

slot-below : (page : ℕ) (pair : Pair) (pairs : List Pair) → page < pair.lo → paired_slot page (pair ∷ pairs) ≡ paired_slot page pairs
slot-below page pair pairs below = rw (has_below page pair below) refl

slot-above : (page : ℕ) (pair : Pair) (pairs : List Pair) → pair.hi ≤ page → paired_slot page (pair ∷ pairs) ≡ paired_slot page pairs
slot-above page pair pairs above = rw (has_above page pair above) refl

-- the part of a pair below a page, if it has one
lower_some : (page : ℕ) (pair : Pair) (rest : List Pair) → pair.lo < page
    → pair_below page pair ++ rest ≡ record { lo = pair.lo; hi = min pair.hi page; slot = pair.slot } ∷ rest
lower_some page pair rest some = let test : nat_lt pair.lo page ≡ true = grind (arith, nat_tests) in rw test refl

lower_empty : (page : ℕ) (pair : Pair) (rest : List Pair) → page ≤ pair.lo → pair_below page pair ++ rest ≡ rest
lower_empty page pair rest none = let test : nat_lt pair.lo page ≡ false = grind (arith, nat_tests) in rw test refl

upper_some : (page : ℕ) (pair : Pair) (rest : List Pair) → page < pair.hi
    → pair_from page pair ++ rest ≡ record { lo = max pair.lo page; hi = pair.hi; slot = pair.slot } ∷ rest
upper_some page pair rest some = let test : nat_lt page pair.hi ≡ true = grind (arith, nat_tests) in rw test refl

upper_empty : (page : ℕ) (pair : Pair) (rest : List Pair) → pair.hi ≤ page → pair_from page pair ++ rest ≡ rest
upper_empty page pair rest none = let test : nat_lt page pair.hi ≡ false = grind (arith, nat_tests) in rw test refl

-- the parts below a page give it and those above it no slot
lower_past : (lo page : ℕ) (pairs rest : List Pair) → lo ≤ page → paired_slot page (flat_map (pair_below lo) pairs ++ rest) ≡ paired_slot page rest
lower_past lo page [] rest past = refl
lower_past lo page (pair ∷ pairs) rest past =
    let others = flat_map (pair_below lo) pairs in
    let Told : List Pair → Type 0 = λ ps. paired_slot page ps ≡ paired_slot page rest in
    let deep = lower_past lo page pairs rest past in
    elim (cases_lt pair.lo lo) as (λ _. paired_slot page ((pair_below lo pair ++ others) ++ rest) ≡ paired_slot page rest) [
      | inl some ↦
          let part : Pair = record { lo = pair.lo; hi = min pair.hi lo; slot = pair.slot } in
          rw (lower_some lo pair others some) (slot-above page part (others ++ rest) (omega arith) ∙ deep)
      | inr none ↦ rw (lower_empty lo pair others none) deep
    ]

-- the parts from a page on give those below it none
upper_past : (hi page : ℕ) (pairs : List Pair) → page < hi → paired_slot page (flat_map (pair_from hi) pairs) ≡ None
upper_past hi page [] past = refl
upper_past hi page (pair ∷ pairs) past =
    let others = flat_map (pair_from hi) pairs in
    let deep = upper_past hi page pairs past in
    elim (cases_lt hi pair.hi) as (λ _. paired_slot page (pair_from hi pair ++ others) ≡ None) [
      | inl some ↦
          let part : Pair = record { lo = max pair.lo hi; hi = pair.hi; slot = pair.slot } in
          rw (upper_some hi pair others some) (slot-below page part others (omega arith) ∙ deep)
      | inr none ↦ rw (upper_empty hi pair others none) deep
    ]

-- the parts below a page give each page below it what the pairs give it
lower_same : (lo page : ℕ) (pairs rest : List Pair) → page < lo → paired_slot page rest ≡ None
    → paired_slot page (flat_map (pair_below lo) pairs ++ rest) ≡ paired_slot page pairs
lower_same lo page [] rest within none = none
lower_same lo page (pair ∷ pairs) rest within none =
    let others = flat_map (pair_below lo) pairs in
    let deep = lower_same lo page pairs rest within none in
    elim (cases_lt pair.lo lo) as (λ _. paired_slot page ((pair_below lo pair ++ others) ++ rest) ≡ paired_slot page (pair ∷ pairs)) [
      | inl some ↦
          let part : Pair = record { lo = pair.lo; hi = min pair.hi lo; slot = pair.slot } in
          let joined = others ++ rest in
          let told : paired_slot page (part ∷ joined) ≡ paired_slot page (pair ∷ pairs) =
          elim (cases_lt page pair.lo) as (λ _. paired_slot page (part ∷ joined) ≡ paired_slot page (pair ∷ pairs)) [
            | inl below ↦ slot-below page part joined below ∙ deep ∙ sym (slot-below page pair pairs below)
            | inr begins ↦ elim (cases_lt page pair.hi) as (λ _. paired_slot page (part ∷ joined) ≡ paired_slot page (pair ∷ pairs)) [
              | inl ends ↦ slot-first page part joined begins (omega arith) ∙ sym (slot-first page pair pairs begins ends)
              | inr above ↦ slot-above page part joined (omega arith) ∙ deep ∙ sym (slot-above page pair pairs above)
            ]
          ] in
          rw (lower_some lo pair others some) told
      | inr past ↦ rw (lower_empty lo pair others past) (deep ∙ sym (slot-below page pair pairs (omega arith)))
    ]

-- and the parts from a page on each other page
upper_same : (hi page : ℕ) (pairs : List Pair) → hi ≤ page → paired_slot page (flat_map (pair_from hi) pairs) ≡ paired_slot page pairs
upper_same hi page [] within = refl
upper_same hi page (pair ∷ pairs) within =
    let others = flat_map (pair_from hi) pairs in
    let deep = upper_same hi page pairs within in
    elim (cases_lt hi pair.hi) as (λ _. paired_slot page (pair_from hi pair ++ others) ≡ paired_slot page (pair ∷ pairs)) [
      | inl some ↦
          let part : Pair = record { lo = max pair.lo hi; hi = pair.hi; slot = pair.slot } in
          let told : paired_slot page (part ∷ others) ≡ paired_slot page (pair ∷ pairs) =
          elim (cases_lt page pair.lo) as (λ _. paired_slot page (part ∷ others) ≡ paired_slot page (pair ∷ pairs)) [
            | inl below ↦ slot-below page part others (omega arith) ∙ deep ∙ sym (slot-below page pair pairs below)
            | inr begins ↦ elim (cases_lt page pair.hi) as (λ _. paired_slot page (part ∷ others) ≡ paired_slot page (pair ∷ pairs)) [
              | inl ends ↦ slot-first page part others (omega arith) ends ∙ sym (slot-first page pair pairs begins ends)
              | inr above ↦ slot-above page part others above ∙ deep ∙ sym (slot-above page pair pairs above)
            ]
          ] in
          rw (upper_some hi pair others some) told
      | inr past ↦ rw (upper_empty hi pair others past) (deep ∙ sym (slot-above page pair pairs (omega arith)))
    ]

-- a page within the overwritten ones has the new slot
pub page_within : (lo hi word page : ℕ) (pairs : List Pair) → lo ≤ page → page < hi → word ≢ 0
    → paired_slot page (overwritten lo hi word pairs) ≡ Some (word - 1)
page_within lo hi word page pairs begins ends some =
    let test : nat_eq word 0 ≡ false = grind (arith, nat_tests) in
    let uppers = flat_map (pair_from hi) pairs in
    let pair : Pair = record { lo = lo; hi = hi; slot = word - 1 } in
    let entry = pair_of lo (record { end = hi; word = word; gap = 0 }) in
    let is : entry ++ uppers ≡ pair ∷ uppers = rw test refl in
    lower_past lo page pairs (entry ++ uppers) begins ∙ ap (paired_slot page) is ∙ slot-first page pair uppers begins ends

-- or none
pub page_free : (lo hi page : ℕ) (pairs : List Pair) → lo ≤ page → page < hi → paired_slot page (overwritten lo hi 0 pairs) ≡ None
page_free lo hi page pairs begins ends =
    lower_past lo page pairs (flat_map (pair_from hi) pairs) begins ∙ upper_past hi page pairs ends

-- what stands between gives no other page a slot
between : (lo hi word page : ℕ) (rest : List Pair) → (page < lo) ⊎ (hi ≤ page)
    → paired_slot page (pair_of lo (record { end = hi; word = word; gap = 0 }) ++ rest) ≡ paired_slot page rest
between lo hi word page rest other =
    let pair : Pair = record { lo = lo; hi = hi; slot = word - 1 } in
    let Told : Bool → Type 0 = λ b. paired_slot page ((if b then [] else (pair ∷ [])) ++ rest) ≡ paired_slot page rest in
    elim (nat_eq word 0) as Told [
      | true ↦ refl
      | false ↦ elim other as (λ _. paired_slot page (pair ∷ rest) ≡ paired_slot page rest) [
        | inl below ↦ slot-below page pair rest below
        | inr above ↦ slot-above page pair rest above
      ]
    ]

-- a page outside has what it had
pub page_below : (lo hi word page : ℕ) (pairs : List Pair) → lo ≤ hi → page < lo
    → paired_slot page (overwritten lo hi word pairs) ≡ paired_slot page pairs
page_below lo hi word page pairs order below =
    let uppers = flat_map (pair_from hi) pairs in
    lower_same lo page pairs (pair_of lo (record { end = hi; word = word; gap = 0 }) ++ uppers) below
    (between lo hi word page uppers (inl below) ∙ upper_past hi page pairs (omega arith))

pub page_above : (lo hi word page : ℕ) (pairs : List Pair) → lo ≤ hi → hi ≤ page
    → paired_slot page (overwritten lo hi word pairs) ≡ paired_slot page pairs
page_above lo hi word page pairs order above =
    let uppers = flat_map (pair_from hi) pairs in
    lower_past lo page pairs (pair_of lo (record { end = hi; word = word; gap = 0 }) ++ uppers) (omega arith)
    ∙ between lo hi word page uppers (inr above) ∙ upper_same hi page pairs above
