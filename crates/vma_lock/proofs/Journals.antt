-- For `VmaTable::add`, `VmaTable::begin`, `VmaTable::end` and others: beginnings of a journal, and a caller's entries in it.
use Rattle.std.proofs.Common.{ℕ, ◌≡◌, ◌≢◌, ◌≤◌, ◌∙◌, refl, sym, ap, Bool, nat_eq, nat_lt, List, [], ◌∷◌, ◌++◌, length, take, drop, arith, length-append}
use Rattle.std.specs.List.{filter}
use Rattle.std.proofs.lemmas.Bool.{cond-false, cond-true, cond_both, ne_eqb, eq-eqb, ltb-true, ltb-false}
use Rattle.std.proofs.lemmas.List.{take-append-drop, take-take, length-take, append-nil, take_all}
use Rattle.std.proofs.lemmas.List.Elements.{filter-append}
use Rattle.mm_types.specs.declared.call.Entry.{Entry}
use Rattle.lock_core.specs.Core.{StartsWith}
use Rattle.lock_core.specs.Events.{longer}
use Rattle.area_rules.specs.Journals.{calls_by}

-- an entry of another caller is none of the caller's
pub calls_other : (caller : ℕ) (journal : List Entry) (entry : Entry) → entry.caller ≢ caller → calls_by caller (journal ++ entry ∷ []) ≡ calls_by caller journal
calls_other caller journal entry apart =
    let p : Entry → Bool = λ e. nat_eq e.caller caller in
    filter-append p journal (entry ∷ [])
    ∙ ap (λ (l : List Entry). filter p journal ++ l) (cond-false (nat_eq entry.caller caller) (entry ∷ []) [] (ne_eqb entry.caller caller apart))
    ∙ append-nil (filter p journal)

-- an entry of the caller comes last
pub calls_own : (caller : ℕ) (journal : List Entry) (entry : Entry) → entry.caller ≡ caller → calls_by caller (journal ++ entry ∷ []) ≡ calls_by caller journal ++ entry ∷ []
calls_own caller journal entry same =
    let p : Entry → Bool = λ e. nat_eq e.caller caller in
    filter-append p journal (entry ∷ [])
    ∙ ap (λ (l : List Entry). filter p journal ++ l) (cond-true (nat_eq entry.caller caller) (entry ∷ []) [] (eq-eqb entry.caller caller same))

-- a beginning is no longer than the list
pub starts_length : (long short : List Entry) → StartsWith long short → length short ≤ length long
starts_length long short starts = omega (arith, length-take (length short) long, ap (λ (l : List Entry). length l) starts)

-- of two beginnings of one list, the one that is no longer begins the other
pub starts_both : (journal long short : List Entry) → StartsWith journal long → StartsWith journal short → length short ≤ length long → StartsWith long short
starts_both journal long short first second less =
    ap (take (length short)) (sym first) ∙ take-take (length short) (length long) journal less ∙ second

pub starts_self : (list : List Entry) → StartsWith list list
starts_self list = take_all (length list) list (omega arith)

-- two lists of one length, of which one begins the other, are one
pub starts_same : (long short : List Entry) → StartsWith long short → StartsWith short long → long ≡ short
starts_same long short first second =
    let less = starts_length long short first in
    let more = starts_length short long second in
    sym (take_all (length short) long (omega arith)) ∙ first

-- each of two beginnings begins the longer
pub longer_first : (journal first second : List Entry) → StartsWith journal first → StartsWith journal second → StartsWith (longer first second) first
longer_first journal first second one two =
    cond_both (nat_lt (length first) (length second)) second first (λ l. StartsWith l first)
    (λ h. let less = ltb-true (length first) (length second) h in starts_both journal second first two one (omega arith))
    (λ h. starts_self first)

pub longer_second : (journal first second : List Entry) → StartsWith journal first → StartsWith journal second → StartsWith (longer first second) second
longer_second journal first second one two =
    cond_both (nat_lt (length first) (length second)) second first (λ l. StartsWith l second)
    (λ h. starts_self second)
    (λ h. let less = ltb-false (length first) (length second) h in starts_both journal first second one two (omega arith))

-- the whole list is the longer of it and a beginning
pub longer_whole : (journal second : List Entry) → StartsWith journal second → longer journal second ≡ journal
longer_whole journal second starts =
    let less = starts_length journal second starts in
    cond_both (nat_lt (length journal) (length second)) second journal (λ l. l ≡ journal)
    (λ h. let more = ltb-true (length journal) (length second) h in absurd (omega arith)) (λ h. refl)

-- a list of the length of its own beginning
longer_rest : (calls rest : List Entry) → length (calls ++ rest) ≤ length calls → calls ++ rest ≡ calls
longer_rest calls [] same = append-nil calls
longer_rest calls (entry ∷ rest) same = absurd (omega (arith, same, length-append calls (entry ∷ rest)))

-- the caller's entries in a list are those in a beginning of it, and maybe more
calls_more : (caller : ℕ) (long short : List Entry) → StartsWith long short
    → calls_by caller long ≡ calls_by caller short ++ calls_by caller (drop (length short) long)
calls_more caller long short starts =
    let p : Entry → Bool = λ e. nat_eq e.caller caller in
    ap (filter p) (sym (take-append-drop (length short) long)) ∙ filter-append p (take (length short) long) (drop (length short) long)
    ∙ ap (λ (l : List Entry). filter p l ++ filter p (drop (length short) long)) starts

-- where a list has no more entries of the caller than a beginning of it, nor has what lies between
pub calls_between : (caller : ℕ) (journal long short : List Entry) → StartsWith journal long → StartsWith long short
    → calls_by caller journal ≡ calls_by caller short → calls_by caller long ≡ calls_by caller short
calls_between caller journal long short first second same =
    let above = calls_more caller journal long first in
    let below = calls_more caller long short second in
    let rest : List Entry = calls_by caller (drop (length short) long) in
    let bound : length (calls_by caller short ++ rest) ≤ length (calls_by caller short) =
    omega (
      arith,
      ap (λ (l : List Entry). length l) above,
      length-append (calls_by caller long) (calls_by caller (drop (length long) journal)),
      ap (λ (l : List Entry). length l) same,
      ap (λ (l : List Entry). length l) below,
    ) in
    below ∙ longer_rest (calls_by caller short) rest bound
