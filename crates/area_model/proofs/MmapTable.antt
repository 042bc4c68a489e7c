-- For the function `mmap`: the outcome by how far its tests go.
use Rattle.std.proofs.Common.{◌≡◌, ℕ, Bool, true, false, List, Some, None, Result, IfOk, ◌*◌, ◌∙◌, sym, ap, subst}
use Rattle.mm_types.specs.declared.area.Record.{Record}
use Rattle.mm_types.specs.declared.call.Errno.{Errno}
use Rattle.mm_types.specs.declared.call.Errno.TheVariants.{Enomem}
use Rattle.mm_types.specs.declared.call.MmapArgs.{MmapArgs}
use Rattle.mm_types.specs.declared.call.Reply.TheVariants.{Refused, Addr}
use Rattle.mm_types.specs.declared.config.Config.{Config}
use Rattle.area_model.specs.declared.step.Stepped.{Stepped}
use Rattle.area_model.specs.Stepped.{outcome_of}
use Rattle.area_rules.specs.Tables.{AddressSpace, Outcome, has_too_many_areas}
use Rattle.mm_types.specs.Rows.{first_row}
use Rattle.area_rules.specs.Mmap.{mmap_unsealed, mmap_rows, mmap_placed_unsealed, mmap_done, start_of, mapped_list, objects_after}

-- a refusal
abbrev pub refusal : AddressSpace → Errno → Outcome
refusal space errno = record { space = space; reply = Refused errno }

-- an outcome by another name
pub same_outcome : {E : Type 0} (r : Result Stepped E) (a b : Outcome) → a ≡ b → IfOk r (λ s. outcome_of s ≡ a) → IfOk r (λ s. outcome_of s ≡ b)
same_outcome r a b same is = subst (λ (o : Outcome). IfOk r (λ s. outcome_of s ≡ o)) same is

-- the test on the length of a list, by another name of the list
pub same_length_test : (config : Config) (result test : Bool) (xs ys zs : List Record) → result ≡ has_too_many_areas config xs → xs ≡ ys → ys ≡ zs → result ≡ test
    → has_too_many_areas config zs ≡ test
same_length_test config result test xs ys zs is first second outcome = sym (ap (λ (l : List Record). has_too_many_areas config l) (first ∙ second)) ∙ sym is ∙ outcome

pub mmap_refused : (config : Config) (space : AddressSpace) (args : MmapArgs) (errno : Errno) → first_row (mmap_rows config space.areas args) ≡ Some errno
    → mmap_unsealed config space args ≡ refusal space errno
unfolding mmap_unsealed
mmap_refused config space args errno refused = rw refused

pub mmap_no_place : (config : Config) (space : AddressSpace) (args : MmapArgs) → first_row (mmap_rows config space.areas args) ≡ None
    → start_of config space.areas args ≡ None → mmap_unsealed config space args ≡ refusal space Enomem
unfolding mmap_unsealed mmap_placed_unsealed
mmap_no_place config space args passes none = rw (passes, none)

module _ (config : Config) (space : AddressSpace) (args : MmapArgs) (start : ℕ) (passes : first_row (mmap_rows config space.areas args) ≡ None)
    (found : start_of config space.areas args ≡ Some start) where
  pub mmap_too_long : has_too_many_areas config (mapped_list config space args start) ≡ true → mmap_unsealed config space args ≡ refusal space Enomem
  unfolding mmap_unsealed mmap_placed_unsealed
  mmap_too_long long = rw (passes, found, long)

  pub mmap_maps : has_too_many_areas config (mapped_list config space args start) ≡ false → mmap_unsealed config space args ≡ mmap_done config space args start
  unfolding mmap_unsealed mmap_placed_unsealed
  mmap_maps fits = rw (passes, found, fits)

  pub mmap_outcome : (list items : List Record) (objects : ℕ) → list ≡ items → items ≡ mapped_list config space args start → objects ≡ objects_after space.objects args
      → has_too_many_areas config (mapped_list config space args start) ≡ false
      → outcome_of (record { list = list; counters = record { objects = objects; brk = space.brk }; reply = Addr (4096 * start) }) ≡ mmap_unsealed config space args
  unfolding mmap_done
  mmap_outcome list items objects of is counted fits = rw (mmap_maps fits, of, is, counted)
