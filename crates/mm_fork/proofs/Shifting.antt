-- For `child_run_makes_a_legal_history`: what a caller did behind entries that are not its own.
use Rattle.std.proofs.Common.{ℕ, zero, suc, ◌≡◌, ◌+◌, ◌-◌, ◌<◌, ◌≤◌, ◌∙◌, refl, sym, ap, subst, cond, Bool, true, false, not, ◌&&◌, ◌||◌, nat_eq, nat_lt, nat_le, List, [], ◌∷◌, ◌++◌, length, map, filter, All, arith, inl, inr}
use Rattle.std.proofs.lemmas.Bool.{cases_Bool, cond-true, cond-false}
use Rattle.std.proofs.lemmas.Bool.Decides.{nat_tests}
use Rattle.std.proofs.lemmas.List.{map-append}
use Rattle.std.proofs.lemmas.List.Elements.{All-head, All-tail}
use Rattle.mm_types.specs.declared.call.Entry.{Entry}
use Rattle.mm_types.specs.declared.call.Seen.{Seen}
use Rattle.mm_types.specs.declared.call.Seen.TheVariants as reads
use Rattle.trace_reader.specs.declared.trace.Op.{Op}
use Rattle.area_rules.specs.Journals.{calls_by, version_of}
use Rattle.history.specs.declared.items.Content.{Content}
use Rattle.history.specs.declared.items.Content.TheVariants as contents
use Rattle.history.specs.declared.items.Item.{Item}
use Rattle.history.specs.Histories.{items_of, op_asked, is_call, gather, goes_first}
use Rattle.history.specs.Runs.{entry_items, read_item, log_items, own_of, ops_of}
use Rattle.history.proofs.SerialOrder.{insert_item}
use Rattle.history.proofs.Steps.{entry_item, entries_append, items_append, entries_none}
use Rattle.mm_fork.specs.Behind.{shifted, unshifted, log_behind}

goes_alike : (n v w c d : ℕ) (s t : Bool) → (nat_lt (v + n) (w + n) || (nat_eq (v + n) (w + n) && (s || (not t && nat_le c d))))
    ≡ (nat_lt v w || (nat_eq v w && (s || (not t && nat_le c d))))
goes_alike n v w c d s t = grind (arith, nat_tests)

goes_shifted : (n : ℕ) (a b : Item) → goes_first (shifted n a) (shifted n b) ≡ goes_first a b
unfolding goes_first
goes_shifted n a b = goes_alike n a.version b.version a.caller b.caller (is_call a.content) (is_call b.content)

insert_shifted : (n : ℕ) (x : Item) (xs : List Item) → insert_item (shifted n x) (map (shifted n) xs) ≡ map (shifted n) (insert_item x xs)
insert_shifted n x [] = refl
insert_shifted n x (y ∷ ys) =
    let first : List Item = x ∷ y ∷ ys in
    let later : List Item = y ∷ insert_item x ys in
    ap (λ (t : Bool). cond t (map (shifted n) first) (shifted n y ∷ insert_item (shifted n x) (map (shifted n) ys))) (goes_shifted n x y)
    ∙ ap (λ (l : List Item). cond (goes_first x y) (map (shifted n) first) (shifted n y ∷ l)) (insert_shifted n x ys)
    ∙ out (goes_first x y) first later
  where
    out : (t : Bool) (xs ys : List Item) → cond t (map (shifted n) xs) (map (shifted n) ys) ≡ map (shifted n) (cond t xs ys)
    out true xs ys = refl
    out false xs ys = refl

pub gather_shifted : (n : ℕ) (xs : List Item) → gather (map (shifted n) xs) ≡ map (shifted n) (gather xs)
gather_shifted n [] = refl
gather_shifted n (x ∷ xs) = ap (insert_item (shifted n x)) (gather_shifted n xs) ∙ insert_shifted n x (gather xs)

items_shifted : (n caller : ℕ) (xs : List Item) → items_of (map (shifted n) xs) caller ≡ map (shifted n) (items_of xs caller)
unfolding items_of
items_shifted n caller [] = refl
items_shifted n caller (x ∷ xs) =
    let p = λ (item : Item). nat_eq item.caller caller in
    ap (λ (l : List Item). cond (nat_eq x.caller caller) (shifted n x ∷ l) l) (items_shifted n caller xs) ∙ out (nat_eq x.caller caller) x (filter p xs)
  where
    out : (t : Bool) (x : Item) (xs : List Item) → cond t (shifted n x ∷ map (shifted n) xs) (map (shifted n) xs) ≡ map (shifted n) (cond t (x ∷ xs) xs)
    out true x xs = refl
    out false x xs = refl

entries_shifted : (n version : ℕ) (entries : List Entry) → entry_items (version + n) entries ≡ map (shifted n) (entry_items version entries)
unfolding entry_items
entries_shifted n version [] = refl
entries_shifted n version (entry ∷ entries) =
    ap (λ (v : ℕ). record { caller = entry.caller; version = v; content = contents.Called entry.call entry.reply } ∷ entry_items v entries) (swap version n)
    ∙ ap (λ (l : List Item). shifted n (entry_item version entry) ∷ l) (entries_shifted n (version + 1) entries)
  where
    swap : (v m : ℕ) → v + m + 1 ≡ v + 1 + m
    swap v m = omega arith

read_shifted : (n caller : ℕ) (read : Seen) → n ≤ version_of read → read_item caller read ≡ shifted n (read_item caller (unshifted n read))
read_shifted n caller (reads.Fault version page access verdict) late =
    let same : version ≡ version - n + n = omega (arith, late) in
    ap (λ (v : ℕ). record { caller = caller; version = v; content = contents.Fault page access verdict }) same
read_shifted n caller (reads.Maps version list) late =
    let same : version ≡ version - n + n = omega (arith, late) in
    ap (λ (v : ℕ). record { caller = caller; version = v; content = contents.List list }) same

log_shifted : (n caller : ℕ) (log : List Seen) → All (λ read. n ≤ version_of read) log
    → log_items caller log ≡ map (shifted n) (log_items caller (log_behind n log))
unfolding log_items
log_shifted n caller [] late = refl
log_shifted n caller (read ∷ log) late =
    let P = λ (r : Seen). n ≤ version_of r in
    ap (λ (x : Item). x ∷ map (read_item caller) log) (read_shifted n caller read (All-head P read log late))
    ∙ ap (λ (l : List Item). shifted n (read_item caller (unshifted n read)) ∷ l) (log_shifted n caller log (All-tail P read log late))

-- what a caller did, counted from behind entries that are not its own
pub own_behind : (caller : ℕ) (before own : List Entry) (log : List Seen) → calls_by caller before ≡ [] → All (λ read. length before ≤ version_of read) log
    → own_of caller (before ++ own) log ≡ map (shifted (length before)) (own_of caller own (log_behind (length before) log))
unfolding own_of
own_behind caller before own log none late =
    let n : ℕ = length before in
    let entries : List Item = items_of (entry_items 0 own) caller in
    let logged : List Item = log_items caller (log_behind n log) in
    let mine : items_of (entry_items 0 (before ++ own)) caller ≡ map (shifted n) entries =
    ap (λ (l : List Item). items_of l caller) (entries_append 0 before own)
    ∙ items_append caller (entry_items 0 before) (entry_items (0 + n) own)
    ∙ ap (λ (l : List Item). l ++ items_of (entry_items (0 + n) own) caller) (entries_none 0 caller before none)
    ∙ ap (λ (l : List Item). items_of l caller) (entries_shifted n 0 own) ∙ items_shifted n caller (entry_items 0 own) in
    ap (λ (l : List Item). gather (l ++ log_items caller log)) mine
    ∙ ap (λ (l : List Item). gather (map (shifted n) entries ++ l)) (log_shifted n caller log late)
    ∙ ap gather (sym (map-append (shifted n) entries logged)) ∙ gather_shifted n (entries ++ logged)

ops_shifted : (n : ℕ) (xs : List Item) → ops_of (map (shifted n) xs) ≡ ops_of xs
unfolding ops_of
ops_shifted n [] = refl
ops_shifted n (x ∷ xs) = ap (λ (l : List Op). op_asked x.content ∷ l) (ops_shifted n xs)

pub ops_behind : (caller : ℕ) (before own : List Entry) (log : List Seen) → calls_by caller before ≡ [] → All (λ read. length before ≤ version_of read) log
    → ops_of (own_of caller (before ++ own) log) ≡ ops_of (own_of caller own (log_behind (length before) log))
ops_behind caller before own log none late =
    ap ops_of (own_behind caller before own log none late) ∙ ops_shifted (length before) (own_of caller own (log_behind (length before) log))
