-- Serves `answering.rt` and `live_space.rt`: what is shown where no address space is open, or it has no area.
use Rattle.std.proofs.Common.{◌≡◌, ◌+◌, ◌<◌, ℕ, List, [], ◌∷◌, ◌++◌, Result, Ok, Err, ap, arith, codes, decimal, length, refl, subst, sym}
use Rattle.std.specs.Prelude.{OnErr, OnOk}
use Rattle.mm_types.specs.declared.area.Record.{Record}
use Rattle.area_rules.specs.Steps.{opening}
use Rattle.trace_reader.specs.Lines.{SoFar}
use Rattle.output.specs.Output.{maps_text}
use Rattle.live_session.specs.Sessions.{Opened, areas_text, found_text, opened_by}
use Rattle.live_session.specs.Internal.Lacking.{LacksForList, found_line}

without_element : {X : Type 0} (xs : List X) → length xs ≡ 0 → xs ≡ []
without_element [] none = refl
without_element (x ∷ xs) none = absurd (omega arith)

pub no_areas : (s : SoFar) → areas_text (opened_by s) ≡ codes "maps " ++ (decimal 0 ++ codes "\n")
unfolding maps_text opening
no_areas s = refl

-- the list of no area
pub shows_none : {T E : Type 0} (result : Result T E) (old new : List ℕ) (s : SoFar) → OnOk result (new ≡ old ++ (codes "maps " ++ (decimal 0 ++ codes "\n")))
    → OnOk result (new ≡ old ++ areas_text (opened_by s))
unfolding maps_text opening
shows_none (Ok done) old new s shown = shown
shows_none (Err error) old new s shown = tt

-- so is that of a list without an area
pub no_list : (now : Opened) → length now.space.areas ≡ 0 → codes "maps " ++ (decimal 0 ++ codes "\n") ≡ areas_text now
unfolding maps_text
no_list now none = sym (ap (λ (areas : List Record). maps_text now.config.files areas) (without_element now.space.areas none))

-- a list without an area lacks room as its text does
pub lacks_list : {T E : Type 0} (result : Result T E) (now : Opened) (shown : List ℕ) (capacity held : ℕ) → shown ≡ areas_text now
    → OnErr result (capacity < held + length shown) → OnErr result (LacksForList now (areas_text now) capacity held)
lacks_list (Ok done) now shown capacity held is room = tt
lacks_list (Err error) now shown capacity held is room = λ none. subst (λ (t : List ℕ). capacity < held + length t) is room

pub none_found : (s : SoFar) (address : ℕ) → found_text (opened_by s) address ≡ codes "none\n"
unfolding opening
none_found s address = refl

pub none_line : (s : SoFar) (address : ℕ) → found_line (opened_by s) address ≡ codes "none\n"
unfolding opening
none_line s address = refl

-- what holds of a failure
pub where_err : {T E : Type 0} (P : Type 0) (result : Result T E) → P → OnErr result P
where_err P (Ok done) holds = tt
where_err P (Err error) holds = holds
