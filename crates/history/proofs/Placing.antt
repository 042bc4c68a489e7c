-- For `places_of`: what its loop keeps.
use Rattle.std.proofs.Common.{ℕ, ◌≡◌, ◌+◌, ◌<◌, ◌≤◌, ◌∙◌, refl, sym, ap, subst, cond, max, Bool, true, false, nat_eq, List, [], ◌∷◌, ◌++◌, length, map, take, get_or, slice_get, set, filter, All, Some, arith, inl, inr}
use Rattle.std.specs.Prelude.{Vec, vec_len}
use Rattle.std.specs.declared.alloc.Global.{Global}
use Rattle.std.proofs.lemmas.Bool.{cases_eq, eq-eqb, ne_eqb}
use Rattle.std.proofs.lemmas.List.{take_more, take_all, append-nil, length-set, get_or-set_same, get_or-set_other, map-append}
use Rattle.std.proofs.lemmas.List.Elements.{filter-append, All-get_or}
use Rattle.std.proofs.lemmas.Option.{slice_get-get_or, slice_get_within, get_or_from_slice_get}
use Rattle.trace_reader.specs.declared.trace.TraceLine.{TraceLine}
use Rattle.history.specs.Histories.{caller_of, lines_of, occurs}
use Rattle.history.specs.declared.callers.TheConstants.{MOST_THREADS}
use Rattle.history.proofs.CallerOrder.{caller_above, all_occur}
use Rattle.history.proofs.ThreadCounts.{no_lines_past}
use Rattle.history.specs.CallerPlaces.{callers_of, ArePlaces, StandAt}

-- of some lines of a trace those of a caller
abbrev pub own_lines : List TraceLine → ℕ → List TraceLine → List TraceLine
own_lines trace caller lines = filter (λ line. nat_eq (caller_of trace line.thread) caller) lines

-- the places of the first lines were found
pub record Placed (lines : List TraceLine) (index callers : ℕ) (places : List (Vec ℕ Global)) : Type 0 where
  pub all : length places ≡ callers
  pub stand : (caller : ℕ) (own : Vec ℕ Global) → slice_get places caller ≡ Some own
      → StandAt lines own.items (own_lines lines caller (take index lines))

no_items : (items : List ℕ) → length items ≡ 0 → items ≡ []
no_items [] none = refl
no_items (x ∷ xs) none = absurd (omega arith)

pub placed_none : (lines : List TraceLine) (callers : ℕ) (places : List (Vec ℕ Global)) → length places ≡ callers
    → All (λ own. vec_len own ≡ 0) places → Placed lines 0 callers places
placed_none lines callers places all empty = record {
  all = all;
  stand = λ caller own found.
      let within : caller < length places = slice_get_within places caller own found in
      let none : own.items ≡ [] = no_items own.items (omega (
        arith,
        own.ok.0,
        subst (λ (v : Vec ℕ Global). vec_len v ≡ 0) (get_or_from_slice_get places caller own own found)
            (empty caller own within),
      )) in
      ap (map (slice_get lines)) none;
}

-- the caller of a line is one of the callers
caller_within : (lines : List TraceLine) (threads index : ℕ) (d : TraceLine) → index < length lines → (get_or lines index d).thread < threads
    → caller_of lines (get_or lines index d).thread < max 1 (caller_of lines threads)
caller_within lines threads index d within below =
    let line : TraceLine = get_or lines index d in
    let there : occurs lines line.thread ≡ true = All-get_or (λ (l : TraceLine). occurs lines l.thread ≡ true) lines index d within
    (all_occur lines) in
    let above : caller_of lines line.thread < caller_of lines threads = caller_above lines line.thread threads there below in
    omega arith

pub caller_at : (lines : List TraceLine) (index callers : ℕ) (d : TraceLine) (caller : ℕ) → index < length lines → All (λ line. line.thread < MOST_THREADS) lines
    → callers ≡ callers_of lines
    → caller ≡ caller_of lines (get_or lines index d).thread → caller < callers
caller_at lines index callers d caller within threads all is =
    let below : caller_of lines (get_or lines index d).thread < max 1 (caller_of lines MOST_THREADS) =
    caller_within lines MOST_THREADS index d within (threads index d within) in
    omega arith

pub placed_more : (lines : List TraceLine) (index callers : ℕ) (places : List (Vec ℕ Global)) → Placed lines index callers places
    → (d : TraceLine) → index < length lines → (caller : ℕ) → caller ≡ caller_of lines (get_or lines index d).thread → caller < length places
    → (old new : Vec ℕ Global) → old ≡ get_or places caller old → new.items ≡ old.items ++ index ∷ []
    → Placed lines (index + 1) callers (set places caller new)
placed_more lines index callers places placed d within caller is at old new was pushed =
    let line : TraceLine = get_or lines index d in
    let more : take (index + 1) lines ≡ take index lines ++ line ∷ [] = take_more lines index d within in
    let own_more : (c : ℕ) → own_lines lines c (take (index + 1) lines) ≡ own_lines lines c (take index lines) ++ cond
    (nat_eq (caller_of lines line.thread) c) (line ∷ []) [] =
    λ c. ap (own_lines lines c) more ∙ filter-append (λ (l : TraceLine). nat_eq (caller_of lines l.thread) c) (take index lines) (line ∷ []) in
    let found : slice_get lines index ≡ Some line = slice_get-get_or lines index d within in
    let here_old : slice_get places caller ≡ Some old = slice_get-get_or places caller old at ∙ ap Some (sym was) in
    record {
      all = length-set places caller new ∙ placed.all;
      stand = λ c own got.
          let c_within : c < length places = subst (λ (n : ℕ). c < n) (length-set places caller new)
          (slice_get_within (set places caller new) c own got) in
          elim (cases_eq c caller) [
            | inl same ↦
                let own_is : own ≡ new = sym (get_or_from_slice_get (set places caller new) c own own got)
                ∙ ap (λ (k : ℕ). get_or (set places caller new) k own) same ∙ get_or-set_same places caller new own at in
                let one : nat_eq (caller_of lines line.thread) c ≡ true = eq-eqb (caller_of lines line.thread) c (sym is ∙ sym same) in
                let added : own_lines lines c (take (index + 1) lines) ≡ own_lines lines c (take index lines) ++ line ∷ [] =
                own_more c ∙ ap (λ (t : Bool). own_lines lines c (take index lines) ++ cond t (line ∷ []) []) one in
                ap (λ (v : Vec ℕ Global). map (slice_get lines) v.items) own_is ∙ ap (map (slice_get lines)) pushed
                ∙ map-append (slice_get lines) old.items (index ∷ [])
                ∙ ap (λ o. map (slice_get lines) old.items ++ o ∷ []) found
                ∙ ap (λ l. l ++ Some line ∷ []) (placed.stand c old (ap (slice_get places) same ∙ here_old))
                ∙ sym (map-append Some (own_lines lines c (take index lines)) (line ∷ [])) ∙ ap (map Some) (sym added)
            | inr other ↦
                let kept : slice_get places c ≡ Some own = slice_get-get_or places c own c_within
                ∙ ap Some (sym (get_or-set_other places caller c new own other) ∙ get_or_from_slice_get (set places caller new) c own own got) in
                let none : nat_eq (caller_of lines line.thread) c ≡ false =
                ne_eqb (caller_of lines line.thread) c (λ same. other (sym same ∙ sym is)) in
                let added : own_lines lines c (take (index + 1) lines) ≡ own_lines lines c (take index lines) =
                own_more c ∙ ap (λ (t : Bool). own_lines lines c (take index lines) ++ cond t (line ∷ []) []) none
                ∙ append-nil (own_lines lines c (take index lines)) in
                placed.stand c own kept ∙ ap (map Some) (sym added)
          ];
    }

-- past the last line
pub placed_all : (lines : List TraceLine) (index : ℕ) (places : List (Vec ℕ Global)) → Placed lines index (callers_of lines) places
    → length lines ≤ index → All (λ line. line.thread < MOST_THREADS) lines → ArePlaces lines (callers_of lines) places
unfolding lines_of
placed_all lines index places placed past threads = record {
  all = placed.all;
  stand = λ caller own found. placed.stand caller own found ∙ ap (λ l. map Some (own_lines lines caller l)) (take_all index lines past);
  no_lines = λ caller above. no_lines_past MOST_THREADS lines caller threads (omega arith);
}
