-- Serves `run_threads`: how many operations the callers have together.
use Rattle.std.proofs.Common.{ℕ, zero, suc, ◌≡◌, ◌+◌, ◌<◌, ◌≤◌, ◌∙◌, sym, ap, subst, cond, Bool, true, false, nat_eq, nat_le, List, [], ◌∷◌, length, get_or, filter, sum, count_by, Option, Some, None, arith}
use Rattle.std.specs.Prelude.{find, is_some, option_and_then}
use Rattle.std.specs.Option.{option_map_or}
use Rattle.std.proofs.lemmas.Bool.Decides.{nat_tests}
use Rattle.std.proofs.lemmas.List.Sums.{sum_by-cons, length-filter, count_by-le-length}
use Rattle.trace_reader.specs.declared.trace.TraceLine.{TraceLine}
use Rattle.history.specs.declared.callers.TheConstants.{MOST_THREADS}
use Rattle.history.specs.CallerPlaces.{callers_of}
use Rattle.history.specs.Histories.{caller_of, lines_of}
use Rattle.vma_drive.specs.Naming.{named_by, tells}
use Rattle.vma_drive.specs.Sharing.{AreShares}

abbrev Bit : Bool → ℕ
Bit t = cond t 1 0

-- lines with a key from a number on
parts : (key : TraceLine → ℕ) (low : ℕ) (lines : List TraceLine)
    → length (filter (λ line. nat_eq (key line) low) lines) + length (filter (λ line. nat_le (low + 1) (key line)) lines) ≤ length
    (filter (λ line. nat_le low (key line)) lines)
parts key low [] = omega arith
parts key low (line ∷ lines) =
    let rest = parts key low lines in
    grind (arith, nat_tests)

-- and lines that go to a line with such a key
module _ (to : TraceLine → Option TraceLine) (key : TraceLine → ℕ) where
  goes : ℕ → TraceLine → Bool
  goes low line = option_map_or (λ (other : TraceLine). nat_eq (key other) low) (to line) false

  goes_from : ℕ → TraceLine → Bool
  goes_from low line = option_map_or (λ (other : TraceLine). nat_le low (key other)) (to line) false

  part : (low : ℕ) (other : Option TraceLine)
      → Bit (option_map_or (λ (l : TraceLine). nat_eq (key l) low) other false)
      + Bit (option_map_or (λ (l : TraceLine). nat_le (low + 1) (key l)) other false)
      ≤ Bit (option_map_or (λ (l : TraceLine). nat_le low (key l)) other false)
  part low None = omega arith
  part low (Some other) = grind (arith, nat_tests)

  told_parts : (low : ℕ) (lines : List TraceLine) → count_by (goes low) lines + count_by (goes_from (low + 1)) lines ≤ count_by (goes_from low) lines
  unfolding goes goes_from
  told_parts low [] = omega arith
  told_parts low (line ∷ lines) = omega (
    arith,
    sum_by-cons (λ (l : TraceLine). Bit (goes low l)) line lines,
    sum_by-cons (λ (l : TraceLine). Bit (goes_from (low + 1) l)) line lines,
    sum_by-cons (λ (l : TraceLine). Bit (goes_from low l)) line lines,
    part low (to line),
    told_parts low lines,
  )

  sums : (lines : List TraceLine) (counts : List ℕ) (low : ℕ)
      → ((k : ℕ) → k < length counts
      → get_or counts k 0 ≡ length (filter (λ line. nat_eq (key line) (low + k)) lines) + count_by (goes (low + k)) lines)
      → sum counts ≤ length (filter (λ line. nat_le low (key line)) lines) + count_by (goes_from low) lines
  sums lines [] low each = omega arith
  sums lines (count ∷ counts) low each =
      let here : count ≡ length (filter (λ line. nat_eq (key line) low) lines) + count_by (goes low) lines =
      each 0 (omega arith) ∙ ap (λ (n : ℕ). length (filter (λ line. nat_eq (key line) n) lines) + count_by (goes n) lines) (zero_more low) in
      let rest : sum counts ≤ length (filter (λ line. nat_le (low + 1) (key line)) lines) + count_by (goes_from (low + 1)) lines =
      sums lines counts (low + 1) (λ k within. each (suc k) (omega arith)
      ∙ ap (λ (n : ℕ). length (filter (λ line. nat_eq (key line) n) lines) + count_by (goes n) lines) (one_more low k)) in
      let total : sum (count ∷ counts) ≡ count + sum counts = sum_by-cons (λ (n : ℕ). n) count counts in
      omega (arith, parts key low lines, told_parts low lines)
    where
      zero_more : (low : ℕ) → low + 0 ≡ low
      zero_more low = omega arith

      one_more : (low k : ℕ) → low + suc k ≡ low + 1 + k
      one_more low k = omega arith

-- only a line that names a line goes to one
named_few : (test : TraceLine → Bool) (lines all : List TraceLine)
    → count_by (λ line. option_map_or test (named_by all line) false) lines ≤ count_by (λ line. is_some line.after) lines
named_few test [] all = omega arith
named_few test (line ∷ lines) all = omega (
  arith,
  sum_by-cons (λ (l : TraceLine). Bit (option_map_or test (named_by all l) false)) line lines,
  sum_by-cons (λ (l : TraceLine). Bit (is_some l.after)) line lines,
  one line.after,
  named_few test lines all,
)
  where
    bit_low : (t : Bool) → Bit t ≤ 1
    bit_low true = omega arith
    bit_low false = omega arith

    one : (after : Option ℕ)
        → Bit (option_map_or test (option_and_then (λ number. find (λ other. nat_eq other.number number) all) after) false) ≤ Bit (is_some after)
    one None = omega arith
    one (Some number) = bit_low (option_map_or test (find (λ other. nat_eq other.number number) all) false)

pub caller_few : (lines : List TraceLine) (threads : ℕ) → caller_of lines threads ≤ threads
unfolding caller_of
caller_few lines zero = omega arith
caller_few lines (suc thread) = let rest = caller_few lines thread in grind (arith, nat_tests)

pub few_callers : (lines : List TraceLine) → callers_of lines ≤ 64
few_callers lines = let few : caller_of lines MOST_THREADS ≤ MOST_THREADS = caller_few lines MOST_THREADS in omega arith

-- the callers are few, and have no more operations than there are lines and names
pub record FewShares (lines : List TraceLine) (operations : List ℕ) : Type 0 where
  pub some : 1 ≤ length operations
  pub callers : length operations ≤ 64
  pub few : sum operations ≤ length lines + length (filter (λ line. is_some line.after) lines)

few_shares : (lines : List TraceLine) (operations : List ℕ) → AreShares lines operations → FewShares lines operations
unfolding lines_of goes goes_from
few_shares lines operations shares =
    let callers : callers_of lines ≤ 64 = few_callers lines in
    let some : 1 ≤ callers_of lines = omega arith in
    record {
      some = omega (arith, shares.all);
      callers = omega (arith, shares.all);
      few =
          let total = sums (named_by lines) (λ (line : TraceLine). caller_of lines line.thread) lines operations 0
          (λ k within. shares.each k (omega (arith, shares.all))
          ∙ ap (λ (n : ℕ). length (filter (λ line. nat_eq (caller_of lines line.thread) n) lines) + tells lines n) (none_more k)) in
          omega (
            arith,
            total,
            length-filter (λ line. nat_le 0 (caller_of lines line.thread)) lines,
            count_by-le-length
                (λ line. nat_le 0 (caller_of lines line.thread)) lines,
            named_few (λ (other : TraceLine). nat_le 0 (caller_of lines other.thread)) lines lines,
            length-filter (λ line. is_some line.after) lines,
          );
    }
  where
    none_more : (k : ℕ) → k ≡ 0 + k
    none_more k = omega arith

pub few_shown : (lines : List TraceLine) (operations shown : List ℕ) → AreShares lines operations → shown ≡ operations → FewShares lines shown
few_shown lines operations shown shares same = subst (FewShares lines) (sym same) (few_shares lines operations shares)
