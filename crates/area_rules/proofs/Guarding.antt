-- The step is what the tables give without their tests of seals, guarded: the tests of seals refuse a call, or leave its outcome.
use Rattle.std.proofs.Common.{◌≡◌, ℕ, Bool, true, false, not, ◌&&◌, ◌||◌, if◌then◌else◌, List, [], ◌∷◌, ◌++◌, Option, Some, None, refl, ap, sym, subst, ◌∙◌}
use Rattle.std.specs.List.{list_any}
use Rattle.std.specs.Option.{is_some, option_or}
use Rattle.std.proofs.lemmas.Bool.{cond_both}
use Rattle.mm_types.specs.declared.area.Prot.{Prot}
use Rattle.mm_types.specs.declared.call.Call.{Call}
use Rattle.mm_types.specs.declared.call.Call.TheVariants.{Mmap, Munmap, Mprotect, Mremap, Touch, Brk, Mseal}
use Rattle.mm_types.specs.declared.call.Errno.{Errno}
use Rattle.mm_types.specs.declared.call.Errno.TheVariants.{Enomem, Eperm}
use Rattle.mm_types.specs.declared.call.MmapArgs.{MmapArgs}
use Rattle.mm_types.specs.declared.call.Reply.{Reply}
use Rattle.mm_types.specs.declared.call.Reply.TheVariants.{Refused}
use Rattle.mm_types.specs.declared.config.Config.{Config}
use Rattle.mm_types.specs.declared.flags.TheConstants.{MAP_FIXED, MREMAP_FIXED}
use Rattle.mm_types.specs.Flags.{has_flag}
use Rattle.mm_types.specs.Rows.{first_row}
use Rattle.area_list.specs.Areas.{page_of, area_at}
use Rattle.area_rules.specs.declared.mremap_request.Moved.{Moved}
use Rattle.area_rules.specs.declared.mremap_request.MremapArgs.{MremapArgs}
use Rattle.area_rules.specs.Tables.{AddressSpace, Outcome, unless_refused, unless_answered, has_too_many_areas}
use Rattle.area_rules.specs.Seals.{has_sealed}
use Rattle.area_rules.specs.Guarded.{guarded_ranges, is_sealed_off, guarded}
use Rattle.area_rules.specs.Mmap.{mmap_rows, start_of, mapped_list, maps_over_seal, mmap_list_rows, mmap_done, mmap_placed, mmap, mmap_placed_unsealed, mmap_unsealed}
use Rattle.area_rules.specs.Munmap.{range_of, munmap_rows, munmap_seal_rows, munmap_done, munmap, munmap_unsealed}
use Rattle.area_rules.specs.Mprotect.{protect_request_rows, protected_prefix, mprotect_rows, mprotect_done, mprotect, mprotect_unsealed_rows, mprotect_unsealed}
use Rattle.area_rules.specs.Mremap.{mremap_args, moves_to, old_range, new_range, mremap_rows, mremap_change, remaps_seal, mremap_list_rows, mremap_done, mremap_changed, mremap, mremap_changed_unsealed, mremap_unsealed}
use Rattle.area_rules.specs.Steps.{step, step_unsealed}

-- what holds of a refusal by the seals, and of an outcome that they leave, holds of the guarded outcome
guarded_cases : (P : Outcome → Type 0) (space : AddressSpace) (call : Call) (outcome : Outcome)
    → P (record { space = space; reply = Refused Eperm }) → (is_sealed_off space.areas call outcome.reply ≡ false → P outcome)
    → P (guarded space call outcome)
unfolding guarded
guarded_cases P space call outcome kept done =
    let refused : Outcome = record { space = space; reply = Refused Eperm } in
    cond_both (is_sealed_off space.areas call outcome.reply) refused outcome P (λ sealed. kept) done

-- one row before two tables
row_before : {A : Type 0} (test : Bool) (answer : A) (rest more : Option A)
    → (if test then Some answer else option_or rest more) ≡ option_or (if test then Some answer else rest) more
row_before true answer rest more = refl
row_before false answer rest more = refl

-- the first row of two tables is that of the first, or else that of the second
first_row_more : {A : Type 0} (rows more : List (Bool × A)) → first_row (rows ++ more) ≡ option_or (first_row rows) (first_row more)
first_row_more [] more = refl
first_row_more (row ∷ rows) more =
    ap (λ o. if row.0 then Some row.1 else o) (first_row_more rows more) ∙ row_before row.0 row.1 (first_row rows) (first_row more)

-- a call that a seal refuses
abbrev refusal : AddressSpace → Outcome
refusal space = record { space = space; reply = Refused Eperm }

-- a last row, of one range
sealed_row : (space : AddressSpace) (done : Outcome) (sealed : Bool)
    → unless_refused space (if sealed then Some Eperm else None) done ≡ (if sealed || false then refusal space else done)
sealed_row space done true = refl
sealed_row space done false = refl

module _ (config : Config) (space : AddressSpace) where
  munmap_guarded : (addr len : ℕ) → munmap config space addr len ≡ guarded space (Munmap addr len) (munmap_unsealed config space addr len)
  unfolding munmap munmap_unsealed guarded is_sealed_off guarded_ranges
  munmap_guarded addr len =
      ap (λ o. unless_refused space o (munmap_done space addr len))
      (first_row_more (munmap_rows config space.areas addr len) (munmap_seal_rows space.areas addr len))
      ∙ at (first_row (munmap_rows config space.areas addr len))
    where
      at : (o : Option Errno)
          → unless_refused space (option_or o (first_row (munmap_seal_rows space.areas addr len))) (munmap_done space addr len)
          ≡ guarded space (Munmap addr len) (unless_refused space o (munmap_done space addr len))
      at (Some errno) = refl
      at None = sealed_row space (munmap_done space addr len) (has_sealed (range_of addr len) space.areas)

  mmap_guarded : (args : MmapArgs) → mmap config space args ≡ guarded space (Mmap args) (mmap_unsealed config space args)
  unfolding mmap mmap_placed mmap_unsealed mmap_placed_unsealed guarded is_sealed_off guarded_ranges maps_over_seal mmap_done
  mmap_guarded args = at (first_row (mmap_rows config space.areas args)) (start_of config space.areas args)
    where
      by_flag : (start : ℕ) (fixed : Bool)
          → unless_refused space (if fixed && has_sealed (range_of args.addr args.len) space.areas then Some Eperm else None)
          (mmap_done config space args start)
          ≡ (if list_any (λ range. has_sealed range space.areas) (if fixed then range_of args.addr args.len ∷ [] else [])
          then refusal space else mmap_done config space args start)
      by_flag start true = sealed_row space (mmap_done config space args start) (has_sealed (range_of args.addr args.len) space.areas)
      by_flag start false = refl

      flipped : (fixed : Bool) (some : Outcome) → (if list_any (λ range. has_sealed range space.areas) (if fixed then range_of args.addr args.len ∷ [] else [])
          then refusal space else some)
          ≡ (if list_any (λ range. has_sealed range space.areas) (if not fixed then [] else range_of args.addr args.len ∷ [])
          then refusal space else some)
      flipped true some = refl
      flipped false some = refl

      by_length : (start : ℕ) (many : Bool)
          → unless_refused space (if many then Some Enomem else (if maps_over_seal space.areas args then Some Eperm else None))
          (mmap_done config space args start)
          ≡ guarded space (Mmap args) (unless_refused space (if many then Some Enomem else None) (mmap_done config space args start))
      by_length start true = refl
      by_length start false = by_flag start (has_flag args.flags MAP_FIXED)
          ∙ flipped (has_flag args.flags MAP_FIXED) (mmap_done config space args start)

      at : (o : Option Errno) (found : Option ℕ) → unless_refused space o (mmap_placed config space args found)
          ≡ guarded space (Mmap args) (unless_refused space o (mmap_placed_unsealed config space args found))
      at (Some errno) found = refl
      at None None = refl
      at None (Some start) = by_length start (has_too_many_areas config (mapped_list config space args start))

  mprotect_guarded : (addr len : ℕ) (prot : Prot)
      → mprotect config space addr len prot ≡ guarded space (Mprotect addr len prot) (mprotect_unsealed config space addr len prot)
  unfolding mprotect mprotect_rows mprotect_unsealed mprotect_unsealed_rows guarded is_sealed_off guarded_ranges
  mprotect_guarded addr len prot =
      ap answered (first_row_more request (seal_row ∷ length_row ∷ []))
      ∙ at (first_row request)
      ∙ ap (λ o. if list_any (λ range. has_sealed range space.areas) (if is_some (first_row request) then [] else range_of addr len ∷ [])
      then refusal space else answered o) (sym (first_row_more request (length_row ∷ [])))
    where
      request : List (Bool × Reply)
      request = protect_request_rows addr len

      seal_row : Bool × Reply
      seal_row = (has_sealed (range_of addr len) space.areas, Refused Eperm)

      length_row : Bool × Reply
      length_row = (has_too_many_areas config (protected_prefix prot (range_of addr len) space.areas), Refused Enomem)

      answered : Option Reply → Outcome
      answered o = unless_answered space o (mprotect_done space (range_of addr len) prot)

      by_seal : (sealed : Bool) (rest : Option Reply) → answered (if sealed then Some (Refused Eperm) else rest)
          ≡ (if sealed || false then refusal space else answered rest)
      by_seal true rest = refl
      by_seal false rest = refl

      at : (o : Option Reply) → answered (option_or o (first_row (seal_row ∷ length_row ∷ [])))
          ≡ (if list_any (λ range. has_sealed range space.areas) (if is_some o then [] else range_of addr len ∷ [])
          then refusal space else answered (option_or o (first_row (length_row ∷ []))))
      at (Some reply) = refl
      at None = by_seal (has_sealed (range_of addr len) space.areas) (first_row (length_row ∷ []))

  -- an mremap by its arguments as one
  abbrev remap_call : MremapArgs → Call
  remap_call args = Mremap args.old args.old_len args.new_len args.flags args.new

  mremap_guarded : (args : MremapArgs) → mremap config space args ≡ guarded space (remap_call args) (mremap_unsealed config space args)
  unfolding mremap mremap_changed mremap_unsealed mremap_changed_unsealed guarded is_sealed_off guarded_ranges remaps_seal mremap_done
  mremap_guarded args = at (first_row (mremap_rows config space.areas args)) _
    where
      by_seals : (done : Outcome) (old fixed new : Bool) → unless_refused space (if old || (fixed && new) then Some Eperm else None) done
          ≡ (if old || (if fixed then new || false else false) then refusal space else done)
      by_seals done true fixed new = refl
      by_seals done false true true = refl
      by_seals done false true false = refl
      by_seals done false false new = refl

      by_flag : (done : Outcome) (fixed : Bool)
          → (if has_sealed (old_range args) space.areas || (if fixed then has_sealed (new_range args) space.areas || false else false)
          then refusal space else done)
          ≡ (if list_any (λ range. has_sealed range space.areas) (old_range args ∷ (if fixed then new_range args ∷ [] else []))
          then refusal space else done)
      by_flag done true = refl
      by_flag done false = refl

      by_length : (change : Moved) (many : Bool)
          → unless_refused space (if many then Some Enomem else (if remaps_seal space.areas args then Some Eperm else None))
          (mremap_done space change)
          ≡ guarded space (remap_call args) (unless_refused space (if many then Some Enomem else None) (mremap_done space change))
      by_length change true = refl
      by_length change false =
          by_seals (mremap_done space change) (has_sealed (old_range args) space.areas) (moves_to args) (has_sealed (new_range args) space.areas)
          ∙ by_flag (mremap_done space change) (moves_to args)

      at : (o : Option Errno) (found : Option Moved) → unless_refused space o (mremap_changed config space args found)
          ≡ guarded space (remap_call args) (unless_refused space o (mremap_changed_unsealed config space found))
      at (Some errno) found = refl
      at None None = refl
      at None (Some change) = by_length change (has_too_many_areas config change.areas)

  -- the step is the guarded outcome
  pub step_guarded : (call : Call) → step config space call ≡ guarded space call (step_unsealed config space call)
  unfolding step step_unsealed
  step_guarded (Mmap args) = mmap_guarded args
  step_guarded (Munmap addr len) = munmap_guarded addr len
  step_guarded (Mprotect addr len prot) = mprotect_guarded addr len prot
  step_guarded (Mremap old old_len new_len flags new) = mremap_guarded (mremap_args old old_len new_len flags new)
  step_guarded (Touch page access) = unfold guarded is_sealed_off guarded_ranges in refl
  step_guarded (Brk addr) = unfold guarded is_sealed_off guarded_ranges in refl
  step_guarded (Mseal addr len flags) = unfold guarded is_sealed_off guarded_ranges in refl

  -- what holds of a refusal by the seals, and of the outcome without their tests where they leave it, holds of the step
  pub step_cases : (P : Outcome → Type 0) (call : Call) → P (refusal space)
      → (is_sealed_off space.areas call (step_unsealed config space call).reply ≡ false → P (step_unsealed config space call))
      → P (step config space call)
  step_cases P call kept done =
      subst P (sym (step_guarded call)) (guarded_cases P space call (step_unsealed config space call) kept done)
