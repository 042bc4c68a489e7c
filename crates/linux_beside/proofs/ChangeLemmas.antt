-- What mprotect and mseal change of the pages of their range.
use mathlib.Core.Bool.{beq as same}
use Rattle.std.proofs.Common.{arith, sym, subst, ap, ◌∙◌, ◌⊎◌, inl, inr}
use Rattle.std.proofs.lemmas.Bool.Decides.{nat_tests}
use Rattle.std.specs.Prelude.{ℕ, ◌≡◌, ◌<◌, ◌≤◌, ◌+◌, ◌-◌, Bool, true, false, ◌&&◌, if◌then◌else◌, nat_eq, nat_le, nat_lt, List, Option, Some, None, IfSome, option_map, Result, Ok, Err, refl}
use Rattle.mm_types.specs.declared.area.Attr.{Attr}
use Rattle.mm_types.specs.declared.area.Prot.{Prot}
use Rattle.area_list.specs.declared.attributes.AttrChange.{AttrChange}
use Rattle.area_list.specs.declared.attributes.AttrChange.TheVariants.{Protection, Seal}
use Rattle.area_list.specs.Areas.{MappedPage, index_of, mapped_page}
use Rattle.area_list.specs.Attributes.{attr_after, changed_page}
use Rattle.linux_rules.specs.declared.area.Vma.{Vma}
use Rattle.linux_rules.specs.declared.area.VmFlags.{VmFlags}
use Rattle.linux_rules.specs.declared.errors.TheConstants.{EPERM, ENOMEM}
use Rattle.linux_rules.specs.declared.kernel.Kernel.{Kernel}
use Rattle.linux_rules.specs.Accounts.{lacks_memory}
use Rattle.linux_rules.specs.Areas.{vma_lookup, vma_before, replaced, upper_part, split_at, split_vma, at_limit}
use Rattle.linux_rules.specs.Doing.{LinuxSpace, Did, ◌>>=◌, ◌>>◌, go_on, done, refuse_if}
use Rattle.linux_rules.specs.Merging.{Merged, merge_existing_range, part_with, same_flags, same_prot}
use Rattle.linux_rules.specs.Mprotect.{cut_below, cut_above, split_off, merged_or, modify_flags, key_of, changes_nothing, becomes_accounted, flags_with, mprotect_fixup}
use Rattle.linux_rules.specs.Mseal.{sealed_flags, seal_one}
use Rattle.linux_beside.specs.Forgetting.{forgotten}
use Rattle.linux_beside.specs.InOrder.{AreInOrder}
use Rattle.linux_beside.proofs.SplitLemmas.{has, maps_to, split_maps, lower_maps, upper_maps}
use Rattle.linux_beside.proofs.LookUps.{IsOneOf, IsPut, put_over, put_one}
use Rattle.linux_beside.proofs.PageMaps.{maps_one, maps_put}
use Rattle.linux_beside.proofs.Merges.{IsMergedOver, Carries, page_in, lies, lies_not, merged_existing, merged_carries}
use Rattle.linux_beside.proofs.ModifyLemmas.{LeavesPart, with_flags, cut_lower, cut_upper}

-- the attributes that the profile has of flags
abbrev pub attr_of : VmFlags → Attr
attr_of flags = record { prot = flags.access; most = flags.may; shared = flags.mayshare; grows = flags.growsdown; sealed = flags.sealed; heap = false }

-- a page with its attributes changed, if it's mapped
abbrev pub turned : AttrChange → Option MappedPage → Option MappedPage
turned change page = option_map (changed_page change) page

-- what a step did that returns an area: the pages of a range are changed. Those behind it that the area has are so already.
pub record IsChange (change : AttrChange) (lo hi : ℕ) (space : LinuxSpace) (did : Did Vma) : Type 0 where
  pub order : AreInOrder did.space.areas
  pub one : (vma : Vma) → did.result ≡ Ok vma → IsOneOf 0 vma did.space.areas
  pub maps : (vma : Vma) (page : ℕ) → did.result ≡ Ok vma
      → maps_to did.space.areas page ≡ (if nat_le lo page && nat_lt page hi then turned change (maps_to space.areas page) else maps_to space.areas page)
  pub over : (vma : Vma) (page : ℕ) → did.result ≡ Ok vma → hi ≤ page → page < vma.hi → turned change (maps_to space.areas page) ≡ maps_to space.areas page
  pub fails : (error page : ℕ) → did.result ≡ Err error → maps_to did.space.areas page ≡ maps_to space.areas page

-- refused before anything was changed
change_refused : (change : AttrChange) (lo hi : ℕ) (space after : LinuxSpace) (error : ℕ) → AreInOrder after.areas
    → ((page : ℕ) → maps_to after.areas page ≡ maps_to space.areas page) → IsChange change lo hi space (record { space = after; result = Err error })
change_refused change lo hi space after error order same = record {
  order = order;
  one = λ vma is. absurd (cc);
  maps = λ vma page is. absurd (cc);
  over = λ vma page is. absurd (cc);
  fails = λ other page is. same page;
}

-- an area with other flags maps its pages with the attributes of these
flags_page : (change : AttrChange) (vma : Vma) (flags : VmFlags) (page : ℕ) → attr_of flags ≡ attr_after change (attr_of vma.flags)
    → mapped_page page (forgotten (record vma { flags = flags })) ≡ changed_page change (mapped_page page (forgotten vma))
unfolding mapped_page index_of
flags_page change vma flags page same = ap made same
  where
    made : Attr → MappedPage
    made attr = record { attr = attr; object = vma.file; index = if nat_eq vma.file 0 then 0 else (if nat_eq vma.file 0 then 0 else vma.pgoff) + (page - vma.lo) }

-- a change is once for all
twice : (change : AttrChange) (attr : Attr) → attr_after change (attr_after change attr) ≡ attr_after change attr
twice (Protection prot) attr = refl
twice Seal attr = refl

-- so an area with its attributes changed keeps its pages under it
same_page : (change : AttrChange) (vma : Vma) (page : ℕ) → attr_after change (forgotten vma).attr ≡ (forgotten vma).attr
    → turned change (Some (mapped_page page (forgotten vma))) ≡ Some (mapped_page page (forgotten vma))
unfolding mapped_page
same_page change vma page same = ap made same
  where
    made : Attr → Option MappedPage
    made attr = Some (record { attr = attr; object = vma.file; index = index_of (forgotten vma) page })

-- splits keep each page
cut_lower_maps : (kernel : Kernel) (vma : Vma) (lo page : ℕ) (space : LinuxSpace) → AreInOrder space.areas → IsOneOf 0 vma space.areas → lo < vma.hi
    → maps_to (cut_below kernel vma lo space).space.areas page ≡ maps_to space.areas page
cut_lower_maps kernel vma lo page space order one below = case (nat_lt vma.lo lo) refl
  where
    found : vma_lookup space.areas vma.lo ≡ Some vma
    found = one.looked vma.lo (lies vma vma.lo (omega arith) one.some)

    full : (test : Bool) → vma.lo < lo → maps_to ((refuse_if test ENOMEM >> split_at vma lo) space).space.areas page ≡ maps_to space.areas page
    full true above = refl
    full false above = split_maps 0 vma.lo lo page space.areas vma order found above below

    case : (test : Bool) → nat_lt vma.lo lo ≡ test → maps_to ((if test then split_vma kernel vma lo else done vma) space).space.areas page ≡ maps_to space.areas page
    case true is = full (at_limit kernel space.areas) (grind (arith, nat_tests))
    case false is = refl

cut_upper_maps : (kernel : Kernel) (vma : Vma) (hi page : ℕ) (space : LinuxSpace) → AreInOrder space.areas → IsOneOf 0 vma space.areas → vma.lo < hi
    → maps_to (cut_above kernel vma hi space).space.areas page ≡ maps_to space.areas page
cut_upper_maps kernel vma hi page space order one above = case (nat_lt hi vma.hi) refl
  where
    found : vma_lookup space.areas vma.lo ≡ Some vma
    found = one.looked vma.lo (lies vma vma.lo (omega arith) one.some)

    full : (test : Bool) → hi < vma.hi
        → maps_to (((refuse_if test ENOMEM >> split_at vma hi) >>= (λ upper. done (record vma { hi = hi }))) space).space.areas page ≡ maps_to space.areas page
    full true below = refl
    full false below = split_maps 0 vma.lo hi page space.areas vma order found above below

    case : (test : Bool) → nat_lt hi vma.hi ≡ test
        → maps_to ((if test then split_vma kernel vma hi >>= (λ upper. done (record vma { hi = hi })) else done vma) space).space.areas page ≡ maps_to space.areas page
    case true is = full (at_limit kernel space.areas) (grind (arith, nat_tests))
    case false is = refl

-- a part with its flags
set_changes : (change : AttrChange) (flags : VmFlags) (part : Vma) (space : LinuxSpace) → AreInOrder space.areas → IsOneOf 0 part space.areas
    → attr_of flags ≡ attr_after change (attr_of part.flags) → IsChange change part.lo part.hi space (with_flags flags part space)
set_changes change flags part space order one attr = record {
  order = put.order;
  one = λ vma is. let same : changed ≡ vma = cc in subst (λ (v : Vma). IsOneOf 0 v after) same (put_one changed space.areas after put);
  maps = λ vma page is. maps_put changed space.areas after page put ∙ at page (has part page) refl;
  over = λ vma page is past below. let same : changed ≡ vma = cc in let ends : changed.hi ≡ vma.hi = ap (λ (v : Vma). v.hi) same in absurd (not_both vma page ends past below);
  fails = λ error page is. absurd (cc);
}
  where
    changed : Vma
    changed = record part { flags = flags }

    after : List Vma
    after = replaced part changed space.areas

    put : IsPut changed space.areas after
    put = put_over part changed space.areas order one one.some (λ page it. it) (λ page it off. absurd (cc))

    not_both : (vma : Vma) (page : ℕ) → part.hi ≡ vma.hi → part.hi ≤ page → page < vma.hi → ⊥
    not_both vma page ends past below = omega arith

    at : (page : ℕ) (here : Bool) → has part page ≡ here → (if here then Some (mapped_page page (forgotten changed)) else maps_to space.areas page)
        ≡ (if here then turned change (maps_to space.areas page) else maps_to space.areas page)
    at page true is = ap (λ (m : MappedPage). Some m) (flags_page change part flags page attr) ∙ ap (λ (o : Option MappedPage). turned change o) (sym (maps_one part space.areas page one is))
    at page false is = refl

-- where a list maps each page as another did, a change of it is one of that
change_of : (change : AttrChange) (lo hi : ℕ) (first space : LinuxSpace) (did : Did Vma) → ((page : ℕ) → maps_to first.areas page ≡ maps_to space.areas page)
    → IsChange change lo hi first did → IsChange change lo hi space did
change_of change lo hi first space did same is = record {
  order = is.order;
  one = is.one;
  maps = λ vma page ok. is.maps vma page ok
      ∙ ap (λ (o : Option MappedPage). if nat_le lo page && nat_lt page hi then turned change o else o) (same page);
  over = λ vma page ok past below. ap (λ (o : Option MappedPage). turned change o) (sym (same page)) ∙ (is.over vma page ok past below ∙ same page);
  fails = λ error page no. is.fails error page no ∙ same page;
}

-- a range on its own
split_changes : (change : AttrChange) (kernel : Kernel) (vma : Vma) (lo hi : ℕ) (flags : VmFlags) (space : LinuxSpace) → AreInOrder space.areas → IsOneOf 0 vma space.areas
    → vma.lo ≤ lo → lo < hi → hi ≤ vma.hi → attr_of flags ≡ attr_after change (attr_of vma.flags) → IsChange change lo hi space (split_off kernel vma lo hi flags space)
unfolding split_off
split_changes change kernel vma lo hi flags space order one from some to attr = first low.result refl
  where
    low : Did Vma
    low = cut_below kernel vma lo space

    is_low : LeavesPart lo vma.hi vma.flags low
    is_low = cut_lower kernel vma lo space order one from (omega arith)

    low_maps : (page : ℕ) → maps_to low.space.areas page ≡ maps_to space.areas page
    low_maps page = cut_lower_maps kernel vma lo page space order one (omega arith)

    last : (high : Did Vma) → LeavesPart lo hi vma.flags high → ((page : ℕ) → maps_to high.space.areas page ≡ maps_to space.areas page)
        → (r : Result Vma ℕ) → high.result ≡ r → IsChange change lo hi space (go_on high.space r (with_flags flags))
    last high is same (Err error) ok = change_refused change lo hi space high.space error is.order same
    last high is same (Ok part) ok = let it = is.part part ok in
        change_of change lo hi high.space space (with_flags flags part high.space) same
        (subst (λ (page : ℕ). IsChange change page hi high.space (with_flags flags part high.space)) it.1
        (subst (λ (page : ℕ). IsChange change part.lo page high.space (with_flags flags part high.space)) it.2
        (set_changes change flags part high.space is.order it.0 (subst (λ (f : VmFlags). attr_of flags ≡ attr_after change (attr_of f)) (sym it.3) attr))))

    first : (r : Result Vma ℕ) → low.result ≡ r → IsChange change lo hi space (go_on low.space r (λ middle. cut_above kernel middle hi >>= with_flags flags))
    first (Err error) ok = change_refused change lo hi space low.space error is_low.order low_maps
    first (Ok middle) ok = let it = is_low.part middle ok in let begin = it.1 in let end = it.2 in
        let high = cut_above kernel middle hi low.space in
        last high (subst (λ (f : VmFlags). LeavesPart lo hi f high) it.3 (subst (λ (page : ℕ). LeavesPart page hi middle.flags high) begin
        (cut_upper kernel middle hi low.space is_low.order it.0 (omega arith) (omega arith))))
        (λ page. cut_upper_maps kernel middle hi page low.space is_low.order it.0 (omega arith) ∙ low_maps page) high.result refl

-- a range merged, or on its own
modify_changes : (change : AttrChange) (kernel : Kernel) (vma : Vma) (lo hi : ℕ) (flags : VmFlags) (space : LinuxSpace) → AreInOrder space.areas
    → IsOneOf 0 vma space.areas → vma.lo ≤ lo → lo < hi → hi ≤ vma.hi → attr_of flags ≡ attr_after change (attr_of vma.flags)
    → IsChange change lo hi space (modify_flags kernel vma lo hi flags space)
unfolding modify_flags
modify_changes change kernel vma lo hi flags space order one from some to attr =
    at (merge_existing_range kernel.rules space.areas (vma_before space.areas lo) vma lo hi flags)
    (merged_existing kernel.rules space.areas vma lo hi flags order one from some to) (merged_carries kernel.rules space.areas vma lo hi flags order one some)
  where
    new : Vma
    new = part_with vma lo hi flags

    -- the range's pages
    ranged : (page : ℕ) → lo ≤ page → page < hi → Some (mapped_page page (forgotten new)) ≡ turned change (maps_to space.areas page)
    ranged page above below = ap (λ (m : MappedPage). Some m) (flags_page change (record (upper_part vma lo) { hi = hi }) flags page attr
        ∙ ap (λ (m : MappedPage). changed_page change m) (lower_maps (upper_part vma lo) hi page ∙ upper_maps vma lo page from above))
        ∙ ap (λ (o : Option MappedPage). turned change o) (sym (maps_one vma space.areas page one (lies vma page (omega arith) (omega arith))))

    inside : (merged : Merged) → IsMergedOver vma lo hi space.areas merged → Carries new space.areas merged.vma → (page : ℕ) (here ranging : Bool)
        → has merged.vma page ≡ here → (nat_le lo page && nat_lt page hi) ≡ ranging
        → (is : IsMergedOver vma lo hi space.areas merged) → (if here then Some (mapped_page page (forgotten merged.vma)) else maps_to is.rest page)
        ≡ (if ranging then turned change (maps_to space.areas page) else maps_to space.areas page)
    inside merged over carry page true true it range is = let within = page_in new page range in
        carry.pages page it ∙ (rw range (ranged page within.0 within.1))
    inside merged over carry page true false it range is = carry.pages page it ∙ (rw range)
    inside merged over carry page false true it range is = let within = page_in new page range in let a = within.0 in let b = within.1 in
        let c = is.covers.0 in let d = is.covers.1 in let on = lies merged.vma page (omega arith) (omega arith) in absurd (cc)
    inside merged over carry page false false it range is = is.without.maps page (outside page range)
      where
        outside : (page : ℕ) → (nat_le lo page && nat_lt page hi) ≡ false → (page < lo) ⊎ (hi ≤ page)
        outside page off = beside (nat_lt page lo) refl
          where
            beside : (low : Bool) → nat_lt page lo ≡ low → (page < lo) ⊎ (hi ≤ page)
            beside true is = inl (grind (arith, nat_tests))
            beside false is = inr (grind (arith, nat_tests))

    idle : (v : Vma) → (forgotten v).attr ≡ attr_of flags → attr_after change (forgotten v).attr ≡ (forgotten v).attr
    idle v same = ap (λ (a : Attr). attr_after change a) (same ∙ attr) ∙ (twice change (attr_of vma.flags) ∙ sym (same ∙ attr))

    past_it : (merged : Merged) → IsMergedOver vma lo hi space.areas merged → Carries new space.areas merged.vma → (page : ℕ) → hi ≤ page → page < merged.vma.hi
        → turned change (maps_to space.areas page) ≡ maps_to space.areas page
    past_it merged is carry page past below = let c = is.covers.0 in let it = lies merged.vma page (omega arith) below in
        let off : has new page ≡ false = lies_not new page (inr past) in
        let maps = carry.pages page it ∙ (rw off) in
        subst (λ (o : Option MappedPage). turned change o ≡ o) maps (same_page change merged.vma page (idle merged.vma carry.attr))

    alone : IsChange change lo hi space (split_off kernel vma lo hi flags space)
    alone = split_changes change kernel vma lo hi flags space order one from some to attr

    at : (o : Option Merged) → IfSome o (IsMergedOver vma lo hi space.areas) → IfSome o (λ merged. Carries new space.areas merged.vma)
        → IsChange change lo hi space (merged_or o (split_off kernel vma lo hi flags) space)
    at None is carry = alone
    at (Some merged) is carry = record {
      order = is.put.order;
      one = λ v ok. let it : merged.vma ≡ v = cc in subst (λ (u : Vma). IsOneOf 0 u merged.areas) it (put_one merged.vma is.rest merged.areas is.put);
      maps = λ v page ok. maps_put merged.vma is.rest merged.areas page is.put
          ∙ inside merged is carry page (has merged.vma page) (nat_le lo page && nat_lt page hi) refl refl is;
      over = λ v page ok past below. let it : merged.vma ≡ v = cc in
          past_it merged is carry page past (subst (λ (u : Vma). page < u.hi) (sym it) below);
      fails = λ error page no. absurd (cc);
    }

-- an area that is so already
idle_change : (change : AttrChange) (vma : Vma) (lo hi : ℕ) (space : LinuxSpace) → AreInOrder space.areas → IsOneOf 0 vma space.areas → vma.lo ≤ lo → lo < hi → hi ≤ vma.hi
    → attr_after change (attr_of vma.flags) ≡ attr_of vma.flags → IsChange change lo hi space (done vma space)
idle_change change vma lo hi space order one from some to same = record {
  order = order;
  one = λ v ok. let it : vma ≡ v = cc in subst (λ (u : Vma). IsOneOf 0 u space.areas) it one;
  maps = λ v page ok. at page (nat_le lo page && nat_lt page hi) refl;
  over = λ v page ok past below. let it : vma ≡ v = cc in idle page (omega arith) (subst (λ (u : Vma). page < u.hi) (sym it) below);
  fails = λ error page no. absurd (cc);
}
  where
    idle : (page : ℕ) → vma.lo ≤ page → page < vma.hi → turned change (maps_to space.areas page) ≡ maps_to space.areas page
    idle page above below = subst (λ (o : Option MappedPage). turned change o ≡ o) (sym (maps_one vma space.areas page one (lies vma page above below)))
        (same_page change vma page same)

    at : (page : ℕ) (inside : Bool) → (nat_le lo page && nat_lt page hi) ≡ inside
        → maps_to space.areas page ≡ (if inside then turned change (maps_to space.areas page) else maps_to space.areas page)
    at page true is = let above : lo ≤ page = grind (arith, nat_tests) in let below : page < hi = grind (arith, nat_tests) in sym (idle page (omega arith) (omega arith))
    at page false is = refl

same_truth : (a b : Bool) → same a b ≡ true → a ≡ b
same_truth true true is = refl
same_truth true false is = absurd (cc)
same_truth false true is = absurd (cc)
same_truth false false is = refl

first_of_both : (a b : Bool) → (a && b) ≡ true → a ≡ true
first_of_both true b is = refl
first_of_both false b is = is

second_of_both : (a b : Bool) → (a && b) ≡ true → b ≡ true
second_of_both true b is = is
second_of_both false b is = absurd (cc)

-- protections that are tested as the same are so
same_prots : (a b : Prot) → same_prot a b ≡ true → a ≡ b
same_prots a b is = let both = second_of_both (same a.read b.read) (same a.write b.write && same a.exec b.exec) is in λ i. record {
  read = same_truth a.read b.read (first_of_both (same a.read b.read) (same a.write b.write && same a.exec b.exec) is) i;
  write = same_truth a.write b.write (first_of_both (same a.write b.write) (same a.exec b.exec) both) i;
  exec = same_truth a.exec b.exec (second_of_both (same a.write b.write) (same a.exec b.exec) both) i;
}

same_access : (flags : VmFlags) (prot : Prot) (key : Bool) → same_flags flags (record flags { access = prot; pkey = key }) ≡ true → flags.access ≡ prot
same_access flags prot key is = same_prots flags.access prot (first_of_both (same_prot flags.access prot) _ is)

-- one area of mprotect's range
pub fixup_changes : (kernel : Kernel) (prot : Prot) (vma : Vma) (lo hi : ℕ) (space : LinuxSpace) → AreInOrder space.areas → IsOneOf 0 vma space.areas
    → vma.lo ≤ lo → lo < hi → hi ≤ vma.hi → IsChange (Protection prot) lo hi space (mprotect_fixup kernel prot vma lo hi space)
unfolding mprotect_fixup flags_with
fixup_changes kernel prot vma lo hi space order one from some to =
    case vma.flags.sealed (changes_nothing kernel vma prot) (becomes_accounted vma.flags prot && lacks_memory kernel (hi - lo)) refl
  where
    nothing : changes_nothing kernel vma prot ≡ true → attr_after (Protection prot) (attr_of vma.flags) ≡ attr_of vma.flags
    nothing is = ap (λ (p : Prot). record (attr_of vma.flags) { prot = p }) (sym (same_access vma.flags prot (key_of kernel prot) is))

    case : (sealed same lacks : Bool) → changes_nothing kernel vma prot ≡ same → IsChange (Protection prot) lo hi space ((refuse_if sealed EPERM >> (if same then done vma else
        (refuse_if lacks ENOMEM >> modify_flags kernel vma lo hi (flags_with kernel vma prot)))) space)
    case true same lacks is = change_refused (Protection prot) lo hi space space EPERM order (λ page. refl)
    case false true lacks is = idle_change (Protection prot) vma lo hi space order one from some to (nothing is)
    case false false true is = change_refused (Protection prot) lo hi space space ENOMEM order (λ page. refl)
    case false false false is = modify_changes (Protection prot) kernel vma lo hi (flags_with kernel vma prot) space order one from some to refl

-- one area of mseal's range
pub seal_changes : (kernel : Kernel) (vma : Vma) (begin page stop : ℕ) (space : LinuxSpace) → AreInOrder space.areas → IsOneOf 0 vma space.areas
    → vma.lo ≤ page → page < stop → stop ≤ vma.hi → begin ≤ page → (begin ≡ page) ⊎ (page ≤ vma.lo) → IsChange Seal page stop space (seal_one kernel vma begin stop space)
unfolding seal_one
seal_changes kernel vma begin page stop space order one from some to behind fresh = case vma.flags.sealed (nat_le vma.lo begin) refl refl
  where
    alone : vma.lo ≡ page → IsChange Seal page stop space (split_off kernel vma vma.lo stop (sealed_flags vma) space)
    alone same = subst (λ (at : ℕ). IsChange Seal at stop space (split_off kernel vma vma.lo stop (sealed_flags vma) space)) same
        (split_changes Seal kernel vma vma.lo stop (sealed_flags vma) space order one (omega arith) (omega arith) to refl)

    whole : begin ≡ page → IsChange Seal page stop space (modify_flags kernel vma begin stop (sealed_flags vma) space)
    whole same = subst (λ (at : ℕ). IsChange Seal at stop space (modify_flags kernel vma begin stop (sealed_flags vma) space)) same
        (modify_changes Seal kernel vma begin stop (sealed_flags vma) space order one (omega arith) (omega arith) to refl)

    begins : nat_le vma.lo begin ≡ true → (begin ≡ page) ⊎ (page ≤ vma.lo) → begin ≡ page
    begins is (inl same) = same
    begins is (inr later) = let low : vma.lo ≤ begin = grind (arith, nat_tests) in omega arith

    stale : nat_le vma.lo begin ≡ false → (begin ≡ page) ⊎ (page ≤ vma.lo) → vma.lo ≡ page
    stale is (inl same) = let low : begin < vma.lo = grind (arith, nat_tests) in absurd (omega arith)
    stale is (inr later) = omega arith

    sealed_is : (sealed : Bool) → vma.flags.sealed ≡ sealed → sealed ≡ true → attr_after Seal (attr_of vma.flags) ≡ attr_of vma.flags
    sealed_is sealed is true_is = ap (λ (s : Bool). record (attr_of vma.flags) { sealed = s }) (sym (is ∙ true_is))

    case : (sealed known : Bool) → vma.flags.sealed ≡ sealed → nat_le vma.lo begin ≡ known → IsChange Seal page stop space ((if sealed then done vma else
        (if known then modify_flags kernel vma begin stop (sealed_flags vma) else split_off kernel vma vma.lo stop (sealed_flags vma))) space)
    case true known is low = idle_change Seal vma page stop space order one from some to (sealed_is true is refl)
    case false true is low = whole (begins low fresh)
    case false false is low = alone (stale low fresh)
