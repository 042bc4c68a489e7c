-- Serves `tells_by_caller` and `shares`: how often the lines of each caller are named.
use Rattle.std.proofs.Common.{ℕ, ◌≡◌, ◌+◌, ◌<◌, ◌≤◌, ◌∙◌, sym, ap, cond, Bool, nat_eq, List, length, take, get_or, set, slice_get, All, count_by, replicate, Some, None, arith, inl, inr}
use Rattle.std.proofs.lemmas.Bool.{cases_eq, eq-eqb, ne_eqb}
use Rattle.std.proofs.lemmas.List.{take_all, length-take, length-set, length-replicate, get_or-set_same, get_or-set_other, get_or-replicate}
use Rattle.std.proofs.lemmas.List.Sums.{length-filter, count_by-le-length}
use Rattle.std.proofs.lemmas.Option.{slice_get_within, slice_get-get_or, get_or_from_slice_get}
use Rattle.trace_reader.specs.declared.trace.TraceLine.{TraceLine}
use Rattle.trace_reader.specs.Values.{AreNumbered}
use Rattle.history.specs.Histories.{caller_of, lines_of}
use Rattle.vma_drive.specs.Naming.{HasNumber, NamesAt, names_caller, tells}
use Rattle.vma_drive.proofs.NamedLines.{names_at, names_its, names_none, counted}

abbrev Bit : Bool → ℕ
Bit t = cond t 1 0

-- the names among the first lines are counted
pub record CountedTo (lines : List TraceLine) (counts : List ℕ) (place : ℕ) : Type 0 where
  pub size : length counts ≡ 64
  pub each : (caller : ℕ) → caller < 64 → get_or counts caller 0 ≡ count_by (names_caller lines caller) (take place lines)

pub counted_none : (lines : List TraceLine) → CountedTo lines (replicate 64 0) 0
counted_none lines = record { size = length-replicate {A = ℕ} 64 0; each = λ caller within. get_or-replicate {A = ℕ} 64 caller 0 0 within }

-- one more name
pub counted_name : (lines : List TraceLine) (counts : List ℕ) (place said number teller : ℕ) (d e : TraceLine) → AreNumbered lines → All (λ (line : TraceLine). line.thread < 64) lines
    → CountedTo lines counts place → place < length lines → (get_or lines place e).after ≡ Some number → HasNumber lines number said
    → teller ≡ caller_of lines (get_or lines said d).thread → teller ≤ (get_or lines said d).thread
    → CountedTo lines (set counts teller (get_or counts teller 0 + 1)) (place + 1)
counted_name lines counts place said number teller d e numbered threads to within after has is few = record {
  size = length-set counts teller (get_or counts teller 0 + 1) ∙ to.size;
  each = λ caller low.
      let here : slice_get lines place ≡ Some (get_or lines place e) = slice_get-get_or lines place e within in
      let at : NamesAt lines place said = names_at lines place said (get_or lines place e) number here after has in
      let other : get_or lines said d ≡ has.0 = get_or_from_slice_get lines said has.0 d has.1 in
      let teller_is : teller ≡ caller_of lines has.0.thread = is ∙ ap (λ (l : TraceLine). caller_of lines l.thread) other in
      let step = counted lines place caller (get_or lines place e) here in
      let tested : names_caller lines caller (get_or lines place e) ≡ nat_eq teller caller =
      names_its lines place said caller numbered at ∙ ap (λ (n : ℕ). nat_eq n caller) (sym teller_is) in
      let bit : Bit (names_caller lines caller (get_or lines place e)) ≡ Bit (nat_eq teller caller) =
      ap Bit tested in
      elim (cases_eq caller teller) [
        | inl same ↦
            let new : get_or (set counts teller (get_or counts teller 0 + 1)) caller 0 ≡ get_or counts teller 0 + 1 =
            ap (λ (n : ℕ). get_or (set counts teller (get_or counts teller 0 + 1)) n 0) same
            ∙ get_or-set_same counts teller (get_or counts teller 0 + 1) 0 (omega (arith, few, threads said d (slice_get_within lines said has.0 has.1), to.size)) in
            let one : Bit (nat_eq teller caller) ≡ 1 = ap Bit (eq-eqb teller caller (sym same)) in
            let old : get_or counts caller 0 ≡ get_or counts teller 0 = ap (λ (n : ℕ). get_or counts n 0) same in
            omega (arith, new, one, bit, step, old, to.each caller low)
        | inr apart ↦
            let new : get_or (set counts teller (get_or counts teller 0 + 1)) caller 0 ≡ get_or counts caller 0 =
            get_or-set_other counts teller caller (get_or counts teller 0 + 1) 0 apart in
            let none : Bit (nat_eq teller caller) ≡ 0 = ap Bit (ne_eqb teller caller (λ level. apart (sym level))) in
            omega (arith, new, none, bit, step, to.each caller low)
      ];
}

-- no more name
pub counted_skip : (lines : List TraceLine) (counts : List ℕ) (place : ℕ) (e : TraceLine) → CountedTo lines counts place → place < length lines
    → (get_or lines place e).after ≡ None → CountedTo lines counts (place + 1)
counted_skip lines counts place e to within after = record {
  size = to.size;
  each = λ caller low.
      let step = counted lines place caller (get_or lines place e) (slice_get-get_or lines place e within) in
      let none : Bit (names_caller lines caller (get_or lines place e)) ≡ 0 = ap Bit (names_none lines caller (get_or lines place e) after) in
      omega (arith, step, none, to.each caller low);
}

pub counted_all : (lines : List TraceLine) (counts : List ℕ) (place : ℕ) → CountedTo lines counts place → length lines ≤ place
    → (caller : ℕ) → caller < 64 → get_or counts caller 0 ≡ tells lines caller
counted_all lines counts place to past caller low = to.each caller low ∙ ap (count_by (names_caller lines caller)) (take_all place lines past)

-- there are no more of them than lines
pub few_counted : (lines : List TraceLine) (counts : List ℕ) (place caller : ℕ) → CountedTo lines counts place → caller < 64
    → get_or counts caller 0 ≤ place
few_counted lines counts place caller to low =
    omega (arith, to.each caller low, count_by-le-length (names_caller lines caller) (take place lines), length-take place lines)

pub few_own : (lines : List TraceLine) (caller : ℕ) → length (lines_of lines caller) ≤ length lines
unfolding lines_of
few_own lines caller =
    let p = λ (line : TraceLine). nat_eq (caller_of lines line.thread) caller in
    omega (arith, length-filter p lines, count_by-le-length p lines)
