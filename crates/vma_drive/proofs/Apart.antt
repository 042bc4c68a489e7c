-- Serves `threads_for`: how close two callers with a line are.
use Rattle.std.proofs.Common.{ℕ, ◌≡◌, ◌+◌, ◌-◌, ◌*◌, ◌/◌, ◌%◌, ◌<◌, ◌≤◌, ◌∙◌, refl, sym, subst, min, Bool, List, [], ◌∷◌, length, get_or, slice_get, Option, Some, None, arith, inl, inr, ◌⊎◌}
use Rattle.std.specs.Prelude.{Vec, IsTrue, ◌↔◌}
use Rattle.std.specs.declared.alloc.Global.{Global}
use Rattle.std.proofs.lemmas.Bool.{cases_lt}
use Rattle.std.proofs.lemmas.Grind.{div_ceil_times}
use Rattle.std.proofs.lemmas.Nat.{mul-le}
use Rattle.std.proofs.lemmas.Option.{same_Some, slice_get-get_or}
use Rattle.fault_path.specs.Passes.{PassView}
use Rattle.vma_drive.specs.Internal.Rounds.{HasLineByRound, IsBusy}

-- of the first callers, of all: how close two busy ones are at the closest, and which busy one is the last
pub record Closest (busy : ℕ → Type 0) (all count closest : ℕ) (last : Option ℕ) : Type 0 where
  pub some : 0 < closest
  pub latest : (caller : ℕ) → caller < count → busy caller → (final : ℕ) × (last ≡ Some final) × (caller ≤ final)
  pub before : (final : ℕ) → last ≡ Some final → (final < count) × busy final
  pub apart : (first gap : ℕ) → 0 < gap → first + gap < count → busy first → busy (first + gap) → closest ≤ gap
  pub reached : (closest ≡ all) ⊎ ((first : ℕ) × busy first × busy (first + closest))

pub closest_none : (busy : ℕ → Type 0) (all : ℕ) → 0 < all → Closest busy all 0 all None
closest_none busy all some = record {
  some = some;
  latest = λ caller within. absurd (omega (arith, within));
  before = λ final is. absurd (cc);
  apart = λ first gap wide within. absurd (omega (arith, within));
  reached = inl refl;
}

-- the next caller has no line
pub closest_idle : (busy : ℕ → Type 0) (all count closest closer : ℕ) (last new : Option ℕ) → Closest busy all count closest last → ¬ busy count
    → closer ≡ closest → new ≡ last → Closest busy all (count + 1) closer new
closest_idle busy all count closest closer last new old idle same kept =
    subst (λ (n : ℕ). Closest busy all (count + 1) n new) (sym same)
    (subst (λ (o : Option ℕ). Closest busy all (count + 1) closest o) (sym kept)
    (let earlier : (caller : ℕ) → caller < count + 1 → busy caller → caller < count =
    λ caller within has. elim (cases_lt caller count) [
      | inl early ↦ early
      | inr late ↦ absurd (idle (subst busy (omega (arith, within, late)) has))
    ] in
    record {
      some = old.some;
      latest = λ caller within has. old.latest caller (earlier caller within has) has;
      before = λ final is. ((let low = (old.before final is).0 in omega (arith, low)), (old.before final is).1);
      apart = λ first gap wide within one two. old.apart first gap wide (earlier (first + gap) within two) one two;
      reached = old.reached;
    }))

-- the next caller has one
closest_busy : (busy : ℕ → Type 0) (all count closest closer : ℕ) (last : Option ℕ) → Closest busy all count closest last → busy count
    → 0 < closer → closer ≤ closest
    → ((final : ℕ) → last ≡ Some final → closer + final ≤ count)
    → ((closer ≡ closest) ⊎ ((final : ℕ) × (last ≡ Some final) × (final + closer ≡ count)))
    → Closest busy all (count + 1) closer (Some count)
closest_busy busy all count closest closer last old has some less near chosen =
    let by_last : (first gap : ℕ) → first < count → first + gap ≡ count → busy first → closer ≤ gap =
    λ first gap early at one.
    let found = old.latest first early one in
    let far = near found.0 found.1 in
    let low = found.2 in
    omega (arith, far, low, at) in
    record {
      some = some;
      latest = λ caller within one. (count, refl, omega (arith, within));
      before = λ final is. (
        (let same : count ≡ final = same_Some count final is in omega (arith, same)),
        subst busy (same_Some count final is) has,
      );
      apart = λ first gap wide within one two. elim (cases_lt (first + gap) count) [
        | inl early ↦ (let low = old.apart first gap wide early one two in omega (arith, low, less))
        | inr late ↦ by_last first gap (omega (arith, wide, within)) (omega (arith, within, late)) one
      ];
      reached = elim chosen [
        | inl same ↦ elim old.reached [
          | inl whole ↦ inl (same ∙ whole)
          | inr pair ↦ inr (pair.0, pair.1, subst (λ (n : ℕ). busy (pair.0 + n)) (sym same) pair.2)
        ]
        | inr pair ↦ inr (pair.0, (old.before pair.0 pair.1).1, subst busy (sym pair.2) has)
      ];
    }

-- it has one, as one before had
pub closest_after : (busy : ℕ → Type 0) (all count closest closer before : ℕ) (last new : Option ℕ) → Closest busy all count closest last → busy count
    → last ≡ Some before → closer ≡ min closest (count - before) → new ≡ Some count → Closest busy all (count + 1) closer new
closest_after busy all count closest closer before last new old has is least here =
    let early = (old.before before is).0 in
    let near : (final : ℕ) → last ≡ Some final → closer + final ≤ count =
    λ final found.
    let same : before ≡ final = same_Some before final (sym is ∙ found) in
    omega (arith, same, least, early) in
    subst (λ (o : Option ℕ). Closest busy all (count + 1) closer o) (sym here)
    (closest_busy busy all count closest closer last old has
    (let some = old.some in omega (arith, some, least, early)) (omega (arith, least)) near
    (elim (cases_lt closest (count - before)) [
      | inl less ↦ inl (omega (arith, less, least))
      | inr more ↦ inr (before, is, omega (arith, more, least, early))
    ]))

-- it is the first that has one
pub closest_first : (busy : ℕ → Type 0) (all count closest closer : ℕ) (last new : Option ℕ) → Closest busy all count closest last → busy count
    → ((before : ℕ) → ¬ (last ≡ Some before)) → closer ≡ closest → new ≡ Some count → Closest busy all (count + 1) closer new
closest_first busy all count closest closer last new old has none same here =
    subst (λ (n : ℕ). Closest busy all (count + 1) n new) (sym same)
    (subst (λ (o : Option ℕ). Closest busy all (count + 1) closest o) (sym here)
    (closest_busy busy all count closest closest last old has old.some (omega arith) (λ final found. absurd (none final found)) (inl refl)))

-- an answer says whether a caller has a line next
abbrev pub Tells : List (Vec ℕ Global) → List ℕ → ℕ → List PassView → ℕ → Bool → Type 0
Tells places rounds round passes caller answer = IsTrue answer ↔ IsBusy places rounds round passes caller

-- a caller is busy where its pass has a line, and else is not
pub tells_busy : (places : List (Vec ℕ Global)) (rounds : List ℕ) (round : ℕ) (passes : List PassView) (caller : ℕ) (pass : PassView) (answer : Bool)
    → slice_get passes caller ≡ Some pass → caller < length places
    → ((own : Vec ℕ Global) → slice_get places caller ≡ Some own → IsTrue answer ↔ HasLineByRound own.items rounds round pass)
    → Tells places rounds round passes caller answer
tells_busy places rounds round passes caller pass answer here within line =
    let own : Vec ℕ Global = get_or places caller (some places caller within) in
    let its : slice_get places caller ≡ Some own = slice_get-get_or places caller (some places caller within) within in (
      λ yes. (pass, own, here, its, (line own its).0 yes),
      λ busy.
          let one : busy.0 ≡ pass = same_Some _ _ (sym busy.2 ∙ here) in
          (line busy.1 busy.3).1 (subst (λ (p : PassView). HasLineByRound busy.1.items rounds round p) one busy.4),
    )
  where
    some : (places : List (Vec ℕ Global)) (caller : ℕ) → caller < length places → Vec ℕ Global
    some [] caller none = absurd (omega arith)
    some (own ∷ rest) caller within = own

-- so many equal shares are enough, and no fewer are
pub record Shares (busy : ℕ → Type 0) (all threads : ℕ) : Type 0 where
  pub some : 0 < threads
  pub apart : (caller gap : ℕ) → 0 < gap → busy caller → busy (caller + gap) → all ≤ threads * gap
  pub fewest : (fewer : ℕ) → 0 < fewer → ((caller gap : ℕ) → 0 < gap → busy caller → busy (caller + gap) → all ≤ fewer * gap) → threads ≤ fewer

pub shares_all : (busy : ℕ → Type 0) (all count closest threads : ℕ) (last : Option ℕ) → 0 < all → Closest busy all count closest last → count ≡ all
    → ((caller : ℕ) → busy caller → caller < all) → threads ≡ all / closest + min 1 (all % closest) → Shares busy all threads
shares_all busy all count closest threads last some to end few is =
    let bounds = div_ceil_times all closest to.some in
    let enough : all ≤ threads * closest = subst (λ (n : ℕ). all ≤ n * closest) (sym is) bounds.0 in
    let tight : threads * closest < all + closest = subst (λ (n : ℕ). n * closest < all + closest) (sym is) bounds.1 in
    let lower : (fewer : ℕ) → all ≤ fewer * closest → threads ≤ fewer =
    λ fewer covers. elim (cases_lt fewer threads) [
      | inl more ↦
          (let high : (fewer + 1) * closest ≤ threads * closest = mul-le (fewer + 1) closest threads closest (omega (arith, more)) (omega arith) in
          absurd (omega (arith, high, tight, covers)))
      | inr same ↦ omega (arith, same)
    ] in
    record {
      some = elim (cases_lt 0 threads) [
        | inl more ↦ more
        | inr none ↦
            (let zero_threads : threads ≡ 0 = omega (arith, none) in
            let nothing : all ≤ 0 * closest = subst (λ (n : ℕ). all ≤ n * closest) zero_threads enough in
            absurd (omega (arith, nothing, some)))
      ];
      apart = λ caller gap wide one two.
          let within = few (caller + gap) two in
          let low = to.apart caller gap wide (omega (arith, within, end)) one two in
          let high : threads * closest ≤ threads * gap = mul-le threads closest threads gap (omega arith) low in
          omega (arith, enough, high);
      fewest = λ fewer one fits. elim to.reached [
        | inl whole ↦
            (let covers : 1 * all ≤ fewer * closest = mul-le 1 all fewer closest (omega (arith, one)) (omega (arith, whole)) in
            lower fewer (omega (arith, covers)))
        | inr pair ↦ lower fewer (fits pair.0 closest to.some pair.1 pair.2)
      ];
    }
