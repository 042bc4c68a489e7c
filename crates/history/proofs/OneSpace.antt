-- For `SpaceLines`: the lines of the parent, and those of a child, make traces by themselves, and are of one space.
use Rattle.std.proofs.Common.{ℕ, ◌≡◌, ◌≢◌, ◌<◌, ◌≤◌, ◌∙◌, refl, sym, ap, subst, cond, Bool, true, false, not, nat_eq, List, [], ◌∷◌, ◌||◌, suc, length, filter, filter_map, get_or, Option, Some, None, is_some, All, AllPairs, Contains, IfSome, arith}
use Rattle.std.specs.List.{list_any, cons_option}
use Rattle.std.proofs.lemmas.Bool.{cond_both, eq-eqb, ne_eqb, eqb-true}
use Rattle.std.proofs.lemmas.List.Elements.{All-filter, All-nil, All-cons, All-head, All-tail, All-weaker, All-contains}
use Rattle.std.proofs.lemmas.List.Kept.{AllPairs-filter, AllPairs-cons}
use Rattle.trace_reader.specs.declared.trace.Trace.{Trace}
use Rattle.trace_reader.specs.declared.trace.TraceLine.{TraceLine}
use Rattle.trace_reader.specs.Lines.{has_child}
use Rattle.trace_reader.specs.Values.{IsTraceValue, IsLineValue, NamesACall, NamesInSpace, ForksFromParent, IsOfParent, child_of, children_of, is_call_op, is_maps}
use Rattle.split_merge.proofs.Lists.{length-filter_at_most}
use Rattle.split_merge.proofs.Counting.{contains_filter}
use Rattle.history.specs.declared.callers.TheConstants.{MOST_THREADS}
use Rattle.history.specs.Histories.{AskThemselves}
use Rattle.history.specs.Parents.{parent_lines}
use Rattle.history.specs.SpaceLines.{AreSpaceLines, child_lines}
use Rattle.history.proofs.Calls.{values_ask}

-- ---- what a test gives of some of the elements

module _ {X : Type 0} {Y : Type 0} (f : X → Option Y) (p : X → Bool) where
  all_rest : (P : Y → Type 0) (o : Option Y) (ys : List Y) → All P (cons_option o ys) → All P ys
  all_rest P None ys all = all
  all_rest P (Some y) ys all = All-tail P y ys all

  all_swap : (P : Y → Type 0) (o : Option Y) (ys zs : List Y) → All P (cons_option o ys) → All P zs → All P (cons_option o zs)
  all_swap P None ys zs all rest = rest
  all_swap P (Some y) ys zs all rest = All-cons P y zs (All-head P y ys all) rest

  all_kept : (P : Y → Type 0) (xs : List X) → All P (filter_map f xs) → All P (filter_map f (filter p xs))
  all_kept P [] all = all
  all_kept P (x ∷ xs) all =
      let rest : All P (filter_map f (filter p xs)) = all_kept P xs (all_rest P (f x) (filter_map f xs) all) in
      cond_both (p x) (x ∷ filter p xs) (filter p xs) (λ l. All P (filter_map f l))
      (λ passes. all_swap P (f x) (filter_map f xs) (filter_map f (filter p xs)) all rest) (λ fails. rest)

  pairs_tail : (R : Y → Y → Type 0) (y : Y) (ys : List Y) → AllPairs R (y ∷ ys) → AllPairs R ys
  pairs_tail R y ys pairs = λ i j d below within. pairs (suc i) (suc j) d (omega arith) (omega arith)

  pairs_head : (R : Y → Y → Type 0) (y : Y) (ys : List Y) → AllPairs R (y ∷ ys) → All (R y) ys
  pairs_head R y ys pairs = λ j d within. pairs 0 (suc j) d (omega arith) (omega arith)

  pairs_rest : (R : Y → Y → Type 0) (o : Option Y) (ys : List Y) → AllPairs R (cons_option o ys) → AllPairs R ys
  pairs_rest R None ys pairs = pairs
  pairs_rest R (Some y) ys pairs = pairs_tail R y ys pairs

  pairs_swap : (R : Y → Y → Type 0) (o : Option Y) (xs : List X) → AllPairs R (cons_option o (filter_map f xs))
      → AllPairs R (filter_map f (filter p xs)) → AllPairs R (cons_option o (filter_map f (filter p xs)))
  pairs_swap R None xs pairs rest = rest
  pairs_swap R (Some y) xs pairs rest = AllPairs-cons R y (filter_map f (filter p xs))
      (all_kept (R y) xs (pairs_head R y (filter_map f xs) pairs)) rest

  pairs_kept : (R : Y → Y → Type 0) (xs : List X) → AllPairs R (filter_map f xs) → AllPairs R (filter_map f (filter p xs))
  pairs_kept R [] pairs = pairs
  pairs_kept R (x ∷ xs) pairs =
      let rest : AllPairs R (filter_map f (filter p xs)) = pairs_kept R xs (pairs_rest R (f x) (filter_map f xs) pairs) in
      cond_both (p x) (x ∷ filter p xs) (filter p xs) (λ l. AllPairs R (filter_map f l))
      (λ passes. pairs_swap R (f x) xs pairs rest) (λ fails. rest)

  longer : (o : Option Y) (ys zs : List Y) → length zs ≤ length ys → length (cons_option o zs) ≤ length (cons_option o ys)
  longer None ys zs fewer = fewer
  longer (Some y) ys zs fewer = omega (arith, fewer)

  no_shorter : (o : Option Y) (ys : List Y) → length ys ≤ length (cons_option o ys)
  no_shorter None ys = omega arith
  no_shorter (Some y) ys = omega arith

  few_kept : (xs : List X) → length (filter_map f (filter p xs)) ≤ length (filter_map f xs)
  few_kept [] = omega arith
  few_kept (x ∷ xs) =
      let rest : length (filter_map f (filter p xs)) ≤ length (filter_map f xs) = few_kept xs in
      cond_both (p x) (x ∷ filter p xs) (filter p xs) (λ l. length (filter_map f l) ≤ length (filter_map f (x ∷ xs)))
      (λ passes. longer (f x) (filter_map f xs) (filter_map f (filter p xs)) rest)
      (λ fails. omega (arith, rest, no_shorter (f x) (filter_map f xs)))

few_both : {X : Type 0} (p q : X → Bool) (xs : List X) → length (filter q (filter p xs)) ≤ length (filter q xs)
few_both p q [] = omega arith
few_both {X} p q (x ∷ xs) =
    let rest : length (filter q (filter p xs)) ≤ length (filter q xs) = few_both p q xs in
    let more : length (filter q xs) ≤ length (filter q (x ∷ xs)) = cond_both (q x) (x ∷ filter q xs) (filter q xs)
    (λ l. length (filter q xs) ≤ length l) (λ counts. omega arith) (λ none. omega arith) in
    cond_both (p x) (x ∷ filter p xs) (filter p xs) (λ l. length (filter q l) ≤ length (filter q (x ∷ xs)))
    (λ passes. by_count (q x) (filter q (filter p xs)) (filter q xs) rest)
    (λ fails. omega (arith, rest, more))
  where
    by_count : (counts : Bool) (ys zs : List X) → length ys ≤ length zs → length (cond counts (x ∷ ys) ys) ≤ length (cond counts (x ∷ zs) zs)
    by_count true ys zs fewer = omega (arith, fewer)
    by_count false ys zs fewer = fewer

-- ---- some of the lines of a trace

-- what a line names is among the lines that pass, where it passes itself
abbrev NamesStay : (TraceLine → Bool) → List TraceLine → TraceLine → Type 0
NamesStay p lines line = p line ≡ true → IfSome line.after (λ number. All (λ other. other.number ≡ number → p other ≡ true) lines)

passing : (p : TraceLine → Bool) (P : TraceLine → Type 0) (lines : List TraceLine) → All (λ line. p line ≡ true → P line) lines → All P (filter p lines)
passing p P [] all = All-nil P
passing p P (line ∷ lines) all =
    let Q : TraceLine → Type 0 = λ line. p line ≡ true → P line in
    let rest : All P (filter p lines) = passing p P lines (All-tail Q line lines all) in
    cond_both (p line) (line ∷ filter p lines) (filter p lines) (All P)
    (λ passes. All-cons P line (filter p lines) (All-head Q line lines all passes) rest) (λ fails. rest)

both : (P Q R : TraceLine → Type 0) (lines : List TraceLine) → ((line : TraceLine) → P line → Q line → R line) → All P lines → All Q lines → All R lines
both P Q R lines join first second = λ i d within. join _ (first i d within) (second i d within)

if_some : {A : Type 0} (o : Option A) (P Q : A → Type 0) → ((a : A) → P a → Q a) → IfSome o P → IfSome o Q
if_some None P Q weaker some = tt
if_some (Some a) P Q weaker some = weaker a some

module _ (p : TraceLine → Bool) (trace : Trace) (value : IsTraceValue trace) (stay : All (NamesStay p trace.lines) trace.lines) where
  abbrev lines : List TraceLine
  lines = trace.lines

  abbrev some : List TraceLine
  some = filter p trace.lines

  of_parent : (thread : ℕ) → IsOfParent lines thread → IsOfParent some thread
  of_parent thread is = all_kept (λ (line : TraceLine). child_of line.op) p (λ child. child ≢ thread) lines is

  names_call : (line : TraceLine) → p line ≡ true → (o : Option ℕ)
      → IfSome o (λ number. (other : TraceLine) × Contains lines other × (other.number ≡ number) × (number < line.number)
      × (other.thread ≢ line.thread) × (is_call_op other.op ≡ true))
      → IfSome o (λ number. All (λ other. other.number ≡ number → p other ≡ true) lines)
      → IfSome o (λ number. (other : TraceLine) × Contains some other × (other.number ≡ number) × (number < line.number)
      × (other.thread ≢ line.thread) × (is_call_op other.op ≡ true))
  names_call line passes None named kept = tt
  names_call line passes (Some number) named kept =
      let at : Contains lines named.0 = named.1 in
      let is : named.0.number ≡ number = named.2 in
      let goes : p named.0 ≡ true = All-contains (λ other. other.number ≡ number → p other ≡ true) lines named.0 kept at is in
      (named.0, contains_filter p lines named.0 at goes, named.2, named.3, named.4, named.5)

  trace_some : IsTraceValue (record trace { lines = filter p trace.lines })
  trace_some = record {
    config = value.config;
    few = omega (arith, length-filter_at_most p lines, value.few);
    lines = All-filter p IsLineValue lines value.lines;
    numbered = AllPairs-filter (λ (a b : TraceLine). a.number < b.number) p lines value.numbered;
    named = passing p (NamesACall some) lines (both (NamesACall lines) (NamesStay p lines) (λ line. p line ≡ true → NamesACall some line) lines
        (λ line named kept passes. names_call line passes line.after named (kept passes)) value.named stay);
    inside = passing p (NamesInSpace some) lines (All-weaker (NamesInSpace lines) (λ line. p line ≡ true → NamesInSpace some line)
        (λ line inside passes. if_some line.after
        (λ number. IsOfParent lines line.thread × All (λ other. other.number ≡ number → IsOfParent lines other.thread) lines)
        (λ number. IsOfParent some line.thread × All (λ other. other.number ≡ number → IsOfParent some other.thread) some)
        (λ number both. (
          of_parent line.thread both.0,
          All-filter p (λ other. other.number ≡ number → IsOfParent some other.thread) lines
              (All-weaker (λ other. other.number ≡ number → IsOfParent lines other.thread) (λ other. other.number ≡ number → IsOfParent some other.thread)
              (λ other is_parent same. of_parent other.thread (is_parent same)) lines both.1),
        )) inside) lines value.inside);
    forks = record {
      once = pairs_kept (λ (line : TraceLine). child_of line.op) p (λ a b. a ≢ b) lines value.forks.once;
      parent = All-filter p (ForksFromParent some) lines (All-weaker (ForksFromParent lines) (ForksFromParent some)
          (λ line forks. if_some (child_of line.op) (λ child. IsOfParent lines line.thread) (λ child. IsOfParent some line.thread)
          (λ child is. of_parent line.thread is) forks) lines value.forks.parent);
      behind = AllPairs-filter (λ (earlier later : TraceLine). child_of later.op ≢ Some earlier.thread) p lines value.forks.behind;
    };
    few_named = omega (arith, few_both p (λ line. is_some line.after) lines, value.few_named);
    few_forks = omega (arith, few_kept (λ (line : TraceLine). child_of line.op) p lines, value.few_forks);
    few_reads = omega (arith, few_both p (λ line. is_maps line.op) lines, value.few_reads);
  }

-- ---- the lines of the parent

-- a thread that no line forks is among no children
parent_apart : (children : List ℕ) (thread : ℕ) → All (λ child. child ≢ thread) children → has_child children thread ≡ false
parent_apart [] thread all = refl
parent_apart (child ∷ children) thread all =
    ap (λ (t : Bool). t || has_child children thread) (ne_eqb child thread (All-head (λ child. child ≢ thread) child children all))
    ∙ parent_apart children thread (All-tail (λ child. child ≢ thread) child children all)

pub parent_is_trace : (trace : Trace) → IsTraceValue trace → IsTraceValue (record trace { lines = parent_lines trace.lines })
parent_is_trace trace value = trace_some (λ line. not (has_child (children_of trace.lines) line.thread)) trace value
    (All-weaker (NamesInSpace trace.lines) (NamesStay (λ line. not (has_child (children_of trace.lines) line.thread)) trace.lines)
    (λ line inside passes. if_some line.after
    (λ number. IsOfParent trace.lines line.thread × All (λ other. other.number ≡ number → IsOfParent trace.lines other.thread) trace.lines)
    (λ number. All (λ other. other.number ≡ number → not (has_child (children_of trace.lines) other.thread) ≡ true) trace.lines)
    (λ number both. All-weaker (λ other. other.number ≡ number → IsOfParent trace.lines other.thread)
    (λ other. other.number ≡ number → not (has_child (children_of trace.lines) other.thread) ≡ true)
    (λ other is_parent same. ap not (parent_apart (children_of trace.lines) other.thread (is_parent same))) trace.lines both.1) inside)
    trace.lines value.inside)

-- ---- the lines of a child

-- no line of a child names a line
child_names_none : (trace : Trace) (child : ℕ) → IsTraceValue trace → Contains (children_of trace.lines) child
    → All (λ line. nat_eq line.thread child ≡ true → line.after ≡ None) trace.lines
child_names_none trace child value forked = All-weaker (NamesInSpace trace.lines) (λ line. nat_eq line.thread child ≡ true → line.after ≡ None)
    (λ line inside own. by_note line line.after (eqb-true line.thread child own) inside) trace.lines value.inside
  where
    by_note : (line : TraceLine) (o : Option ℕ) → line.thread ≡ child
        → IfSome o (λ number. IsOfParent trace.lines line.thread × All (λ other. other.number ≡ number → IsOfParent trace.lines other.thread) trace.lines)
        → o ≡ None
    by_note line None own inside = refl
    by_note line (Some number) own inside =
        absurd (All-contains (λ c. c ≢ line.thread) (children_of trace.lines) child inside.0 forked (sym own))

pub child_lines_name_none : (trace : Trace) (child : ℕ) → IsTraceValue trace → Contains (children_of trace.lines) child
    → All (λ line. line.after ≡ None) (child_lines trace.lines child)
child_lines_name_none trace child value forked =
    passing (λ line. nat_eq line.thread child) (λ line. line.after ≡ None) trace.lines (child_names_none trace child value forked)

pub child_is_trace : (trace : Trace) (child : ℕ) → IsTraceValue trace → Contains (children_of trace.lines) child
    → IsTraceValue (record trace { lines = child_lines trace.lines child })
child_is_trace trace child value forked = trace_some (λ line. nat_eq line.thread child) trace value
    (All-weaker (λ line. nat_eq line.thread child ≡ true → line.after ≡ None) (NamesStay (λ line. nat_eq line.thread child) trace.lines)
    (λ line none own. subst (λ (o : Option ℕ). IfSome o (λ number. All (λ other. other.number ≡ number → nat_eq other.thread child ≡ true) trace.lines))
    (sym (none own)) tt) trace.lines (child_names_none trace child value forked))

pub child_is_alone : (trace : Trace) (child : ℕ) → All (λ line. line.thread ≡ child) (child_lines trace.lines child)
child_is_alone trace child = passing (λ line. nat_eq line.thread child) (λ line. line.thread ≡ child) trace.lines
    (λ i d within own. eqb-true _ child own)

-- ---- they are of one space

-- a thread that is among no children is forked by no line
apart_from : (children : List ℕ) (thread : ℕ) → has_child children thread ≡ false → All (λ child. child ≢ thread) children
apart_from [] thread none = All-nil (λ child. child ≢ thread)
apart_from (child ∷ children) thread none = by_test (nat_eq child thread) refl none (apart_from children thread)
  where
    by_test : (test : Bool) → nat_eq child thread ≡ test → (test || has_child children thread) ≡ false
        → (has_child children thread ≡ false → All (λ child. child ≢ thread) children) → All (λ child. child ≢ thread) (child ∷ children)
    by_test true same none rest = absurd (cc)
    by_test false other none rest = All-cons (λ child. child ≢ thread) child children
        (λ same. absurd (cc (other, eq-eqb child thread same))) (rest none)

-- where lines fork nobody there are no children
pub forks_none : (lines : List TraceLine) → All (λ line. child_of line.op ≡ None) lines → children_of lines ≡ []
forks_none [] none = refl
forks_none (line ∷ lines) none =
    let rest : children_of lines ≡ [] = forks_none lines (All-tail (λ line. child_of line.op ≡ None) line lines none) in
    ap (λ (child : Option ℕ). cons_option child (children_of lines)) (All-head (λ line. child_of line.op ≡ None) line lines none) ∙ rest

space_of : (trace : Trace) (own : List TraceLine) → IsTraceValue (record trace { lines = own })
    → All (λ line. IsOfParent own line.thread) own → AreSpaceLines own
space_of trace own value apart = record {
  few = value.few;
  values = value.lines;
  numbered = value.numbered;
  named = value.named;
  apart = apart;
}

every : (P : TraceLine → Type 0) → ((line : TraceLine) → P line) → (lines : List TraceLine) → All P lines
every P each lines = λ i d within. each (get_or lines i d)

not_so : (b : Bool) → not b ≡ true → b ≡ false
not_so true none = absurd (cc)
not_so false none = refl

-- a thread of the parent is forked by none of the parent's lines
stays_apart : (lines : List TraceLine) (line : TraceLine) → not (has_child (children_of lines) line.thread) ≡ true
    → IsOfParent (parent_lines lines) line.thread
stays_apart lines line passes =
    all_kept (λ (l : TraceLine). child_of l.op) (λ l. not (has_child (children_of lines) l.thread)) (λ child. child ≢ line.thread) lines
    (apart_from (children_of lines) line.thread (not_so (has_child (children_of lines) line.thread) passes))

pub parent_is_space : (trace : Trace) → IsTraceValue trace → AreSpaceLines (parent_lines trace.lines)
parent_is_space trace value = space_of trace (parent_lines trace.lines) (parent_is_trace trace value)
    (passing (λ line. not (has_child (children_of trace.lines) line.thread)) (λ line. IsOfParent (parent_lines trace.lines) line.thread) trace.lines
    (every (λ line. not (has_child (children_of trace.lines) line.thread) ≡ true → IsOfParent (parent_lines trace.lines) line.thread)
    (stays_apart trace.lines) trace.lines))

-- no line of a child forks
child_forks_none : (trace : Trace) (child : ℕ) → IsTraceValue trace → Contains (children_of trace.lines) child
    → All (λ line. nat_eq line.thread child ≡ true → child_of line.op ≡ None) trace.lines
child_forks_none trace child value forked = All-weaker (ForksFromParent trace.lines) (λ line. nat_eq line.thread child ≡ true → child_of line.op ≡ None)
    (λ line forks own. by_fork line (child_of line.op) (eqb-true line.thread child own) forks) trace.lines value.forks.parent
  where
    by_fork : (line : TraceLine) (o : Option ℕ) → line.thread ≡ child → IfSome o (λ other. IsOfParent trace.lines line.thread) → o ≡ None
    by_fork line None own forks = refl
    by_fork line (Some other) own forks =
        absurd (All-contains (λ c. c ≢ line.thread) (children_of trace.lines) child forks forked (sym own))

pub child_is_space : (trace : Trace) (child : ℕ) → IsTraceValue trace → Contains (children_of trace.lines) child
    → AreSpaceLines (child_lines trace.lines child)
child_is_space trace child value forked =
    let own : List TraceLine = child_lines trace.lines child in
    let none : children_of own ≡ [] = forks_none own
    (passing (λ line. nat_eq line.thread child) (λ line. child_of line.op ≡ None) trace.lines (child_forks_none trace child value forked)) in
    space_of trace own (child_is_trace trace child value forked)
    (every (λ line. IsOfParent own line.thread)
    (λ line. subst (λ (l : List ℕ). All (λ c. c ≢ line.thread) l) (sym none) (All-nil (λ c. c ≢ line.thread))) own)

all_stay : (lines : List TraceLine) → filter (λ (line : TraceLine). true) lines ≡ lines
all_stay [] = refl
all_stay (line ∷ lines) = ap (λ (l : List TraceLine). line ∷ l) (all_stay lines)

pub no_children : (lines : List TraceLine) → list_any (λ line. is_some (child_of line.op)) lines ≡ false → children_of lines ≡ []
no_children [] none = refl
no_children (line ∷ lines) none = by_child (child_of line.op) none (λ rest. no_children lines rest)
  where
    by_child : (child : Option ℕ) → (is_some child || list_any (λ line. is_some (child_of line.op)) lines) ≡ false
        → (list_any (λ line. is_some (child_of line.op)) lines ≡ false → children_of lines ≡ []) → cons_option child (children_of lines) ≡ []
    by_child None none rest = rest none
    by_child (Some child) none rest = absurd (cc)

-- where no line forks, all lines are the parent's
pub none_forked : (lines : List TraceLine) → children_of lines ≡ [] → parent_lines lines ≡ lines
none_forked lines none =
    ap (λ (children : List ℕ). filter (λ (line : TraceLine). not (has_child children line.thread)) lines) none ∙ all_stay lines

pub all_of_parent : (lines : List TraceLine) → list_any (λ line. is_some (child_of line.op)) lines ≡ false → parent_lines lines ≡ lines
all_of_parent lines none = none_forked lines (no_children lines none)

-- so they are of one space
pub whole_is_space : (trace : Trace) (lines : List TraceLine) (some : Bool) → IsTraceValue trace → lines ≡ trace.lines
    → some ≡ list_any (λ line. is_some (child_of line.op)) lines → some ≡ false → AreSpaceLines lines
whole_is_space trace lines some value same is none =
    let all : parent_lines lines ≡ lines = all_of_parent lines (sym is ∙ none) in
    subst AreSpaceLines (ap parent_lines (sym same) ∙ all) (parent_is_space trace value)

-- and they are the parent's
pub whole_is_parent : (lines all : List TraceLine) (some : Bool) → lines ≡ all
    → some ≡ list_any (λ line. is_some (child_of line.op)) lines → some ≡ false → lines ≡ parent_lines all
whole_is_parent lines all some same is none = sym (all_of_parent lines (sym is ∙ none)) ∙ ap parent_lines same

-- the same, of lists that are these lines
pub space_of_parent : (trace : Trace) (lines own : List TraceLine) → IsTraceValue trace → lines ≡ trace.lines → own ≡ parent_lines lines
    → AreSpaceLines own
space_of_parent trace lines own value same is = subst AreSpaceLines (ap parent_lines (sym same) ∙ sym is) (parent_is_space trace value)

pub space_of_child : (trace : Trace) (child : ℕ) (lines own : List TraceLine) → IsTraceValue trace → Contains (children_of trace.lines) child
    → lines ≡ trace.lines → own ≡ child_lines lines child → AreSpaceLines own
space_of_child trace child lines own value forked same is =
    subst AreSpaceLines (ap (λ (l : List TraceLine). child_lines l child) (sym same) ∙ sym is) (child_is_space trace child value forked)

-- what lines of one space are besides
pub space_threads : (lines : List TraceLine) → AreSpaceLines lines → All (λ line. line.thread < MOST_THREADS) lines
space_threads lines space = All-weaker IsLineValue (λ line. line.thread < MOST_THREADS) (λ line value. value.thread) lines space.values

pub space_asks : (lines : List TraceLine) → AreSpaceLines lines → AskThemselves lines
space_asks lines space = values_ask lines space.values
