-- For `plan_mprotect`: ranges that go past the limit, from whose page on no page is mapped.
use Rattle.std.proofs.Common.{◌≡◌, ◌≤◌, ◌<◌, ℕ, true, false, ◌&&◌, min, nat_le, nat_lt, List, [], ◌∷◌, length, inl, inr, ◌⊎◌, Option, Some, None, refl, ap, ◌∙◌, sym, subst, arith}
use Rattle.std.specs.Option.{option_or, option_map}
use Rattle.std.specs.List.{filter, AllByRecursion as Each}
use Rattle.std.proofs.lemmas.Bool.{cases_lt, cond-false, le-leb, lt-leb}
use Rattle.std.proofs.lemmas.Bool.Decides.{nat_tests}
use Rattle.std.proofs.lemmas.List.Elements.{All-weaker}
use Rattle.mm_types.specs.declared.area.Span.{Span}
use Rattle.mm_types.specs.declared.area.Prot.{Prot}
use Rattle.mm_types.specs.declared.area.Record.{Record}
use Rattle.mm_types.specs.declared.call.Errno.{Errno}
use Rattle.mm_types.specs.declared.call.Errno.TheVariants.{Enomem}
use Rattle.area_list.specs.Areas.{IsCanonical, area_at, has_page, page_map}
use Rattle.area_list.specs.declared.attributes.AttrChange.TheVariants.{Protection}
use Rattle.area_list.specs.Attributes.{changed_page}
use Rattle.area_list.specs.Changes.{protected_list}
use Rattle.area_rules.specs.Mprotect.{may_have, stop_of, stop_error, protected_prefix, IsStop, prefix_of}
use Rattle.area_list.proofs.Elements.{Each-always}
use Rattle.area_rules.proofs.Stopping.{stop_before, may_not_unmapped}
use Rattle.area_list.proofs.Order.{IsGood, good_from_canonical}
use Rattle.area_rules.proofs.ProtectLaws.{stop_is, prefix_unique}
use Rattle.split_merge.specs.declared.plan.Change.{Change}
use Rattle.split_merge.specs.Plans.{olds_of, IsLocal, Makes, is_near}
use Rattle.split_merge.proofs.Lists.{length-filter_wider}
use Rattle.split_merge.proofs.Refusing.{nothing_made}
use Rattle.split_merge.proofs.Stopping.{error_unmapped}

not_within : (lo hi page : ℕ) → hi ≤ page → (nat_le lo page && nat_lt page hi) ≡ false
not_within lo hi page past = grind (arith, nat_tests)

-- no area has a page from the limit on
unmapped : (limit : ℕ) (areas : List Record) (page : ℕ) → Each (IsGood limit) areas → limit ≤ page → area_at areas page ≡ None
unmapped limit [] page good past = refl
unmapped limit (area ∷ areas) page good past =
    cond-false (has_page area.span page) (Some area) (area_at areas page)
    (not_within area.span.lo area.span.hi page (omega (arith, good.0.below_end)))
    ∙ unmapped limit areas page good.1 past

-- the error of a range that goes on after the one that was protected
error_before : (lo hi end stop : ℕ) (area : Option Record) → end < hi → stop < end
    → option_or (stop_error (record { lo = lo; hi = end }) stop area) (Some Enomem) ≡ stop_error (record { lo = lo; hi = hi }) stop area
unfolding stop_error
error_before lo hi end stop area further before = rw (lt-leb end stop before, lt-leb hi stop (omega arith))

error_at_end : (lo hi end stop : ℕ) (area : Option Record) → end < hi → end ≤ stop → stop < hi → area ≡ None
    → option_or (stop_error (record { lo = lo; hi = end }) stop area) (Some Enomem) ≡ stop_error (record { lo = lo; hi = hi }) stop area
unfolding stop_error
error_at_end lo hi end stop area further at within none = rw (none, le-leb end stop at, lt-leb hi stop within)

unmoved : (lo page : ℕ) → (nat_le lo page && nat_lt page lo) ≡ false
unmoved lo page = grind (arith, nat_tests)

module _ (limit : ℕ) (prot : Prot) (range : Span) (areas : List Record) (c : IsCanonical limit areas) where
  -- no page from the limit on may have the protection
  may_not : (page : ℕ) → limit ≤ page → may_have prot (area_at areas page) ≡ false
  may_not page past = may_not_unmapped prot (area_at areas page) (unmapped limit areas page (good_from_canonical limit areas c) past)

  -- a range from the limit on stops where it begins
  stop_past : limit ≤ range.lo → range.lo < range.hi → stop_of prot range areas ≡ range.lo
  stop_past past some = stop_before prot range areas range.lo (omega arith) some (may_not range.lo past) (λ page from below. absurd (omega arith))

  pub error_past : limit ≤ range.lo → range.lo < range.hi
      → Some Enomem ≡ stop_error range (stop_of prot range areas) (area_at areas (stop_of prot range areas))
  error_past past some = let stop = stop_past past some in
      error_unmapped range (stop_of prot range areas) (area_at areas (stop_of prot range areas)) (omega arith)
      (unmapped limit areas (stop_of prot range areas) (good_from_canonical limit areas c) (omega arith))

  -- and changes nothing
  prefix_past : limit ≤ range.lo → range.lo < range.hi → areas ≡ protected_prefix prot range areas
  prefix_past past some = prefix_unique limit prot range areas areas (omega arith) c c
      (λ page. sym (cond-false (has_page (prefix_of prot range areas) page) (option_map (changed_page (Protection prot)) (page_map areas page)) (page_map areas page)
      (ap (λ stop. nat_le range.lo page && nat_lt page stop) (stop_past past some) ∙ unmoved range.lo page)))

  pub makes_past : (plan : List Change) → limit ≤ range.lo → range.lo < range.hi → plan ≡ [] → Makes plan areas (protected_prefix prot range areas)
  makes_past plan past some none = nothing_made plan areas (protected_prefix prot range areas) none (sym (prefix_past past some))

  module _ (end : ℕ) (at : end ≡ min range.hi limit) (from : range.lo < limit) (across : limit < range.hi) where
    -- the stop of the part below the limit
    abbrev stop : ℕ
    stop = stop_of prot (record { lo = range.lo; hi = end }) areas

    stopped : IsStop prot (record { lo = range.lo; hi = end }) areas stop
    stopped = stop_is prot (record { lo = range.lo; hi = end }) areas (omega arith)

    -- a range across the limit stops where that part does
    stop_across : stop_of prot range areas ≡ stop
    stop_across = stop_before prot range areas stop stopped.begins (omega (arith, stopped.ends)) (denied (cases_lt stop end)) stopped.before
      where
        denied : (stop < end) ⊎ (end ≤ stop) → may_have prot (area_at areas stop) ≡ false
        denied (inl before) = stopped.stopped before
        denied (inr past) = may_not stop (omega arith)

    error_of_part : option_or (stop_error (record { lo = range.lo; hi = end }) stop (area_at areas stop)) (Some Enomem) ≡ stop_error range stop (area_at areas stop)
    error_of_part = elim (cases_lt stop end) [
      | inl before ↦ error_before range.lo range.hi end stop (area_at areas stop) (omega arith) before
      | inr past ↦ error_at_end range.lo range.hi end stop (area_at areas stop) (omega arith) past (omega (arith, stopped.ends))
          (unmapped limit areas stop (good_from_canonical limit areas c) (omega arith))
    ]

    pub error_across : (result error : Option Errno) → result ≡ option_or error (Some Enomem)
        → error ≡ stop_error (record { lo = range.lo; hi = end }) stop (area_at areas stop)
        → result ≡ stop_error range (stop_of prot range areas) (area_at areas (stop_of prot range areas))
    error_across result error is part = is ∙ ap (λ e. option_or e (Some Enomem)) part ∙ error_of_part
        ∙ ap (λ page. stop_error range page (area_at areas page)) (sym stop_across)

    pub makes_across : (plan : List Change) → Makes plan areas (protected_prefix prot (record { lo = range.lo; hi = end }) areas)
        → Makes plan areas (protected_prefix prot range areas)
    unfolding protected_prefix
    makes_across plan made = subst (λ page. Makes plan areas (protected_list prot (record { lo = range.lo; hi = page }) areas)) (sym stop_across) made

near_wider : (lo end hi from to : ℕ) → end ≤ hi → (nat_le from end && nat_le lo to) ≡ true → (nat_le from hi && nat_le lo to) ≡ true
near_wider lo end hi from to wider near = grind (arith, nat_tests)

-- a plan that is local to a range is local to a longer one
pub local_longer : (lo end hi : ℕ) (areas : List Record) (plan : List Change) → end ≤ hi → IsLocal (record { lo = lo; hi = end }) areas plan
    → IsLocal (record { lo = lo; hi = hi }) areas plan
local_longer lo end hi areas plan wider local = record {
  near = All-weaker (λ old. is_near (record { lo = lo; hi = end }) old ≡ true) (λ old. is_near (record { lo = lo; hi = hi }) old ≡ true) near (olds_of plan) local.near;
  short = omega (arith, local.short, longer);
}
  where
    longer : length (filter (is_near (record { lo = lo; hi = end })) areas) ≤ length (filter (is_near (record { lo = lo; hi = hi })) areas)
    longer = length-filter_wider (is_near (record { lo = lo; hi = end })) (is_near (record { lo = lo; hi = hi })) areas
        (Each-always (λ area. is_near (record { lo = lo; hi = end }) area ≡ true → is_near (record { lo = lo; hi = hi }) area ≡ true)
        (λ area. near_wider lo end hi area.span.lo area.span.hi wider) areas)

    near : (old : Record) → is_near (record { lo = lo; hi = end }) old ≡ true → is_near (record { lo = lo; hi = hi }) old ≡ true
    near old is = near_wider lo end hi old.span.lo old.span.hi wider is
