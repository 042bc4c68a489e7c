-- For `traces_fit`: what holds of the lines with a thread holds with one line more.
use Rattle.std.proofs.Common.{◌≡◌, ◌≢◌, ℕ, ◌+◌, ◌<◌, ◌≤◌, Bool, true, false, not, ◌&&◌, ◌||◌, cond, nat_eq, nat_le, List, [], ◌∷◌, ◌++◌, length, length-append, get_or, Option, Some, None, if◌then◌else◌, refl, sym, ap, ◌∙◌, subst, inl, inr, arith}
use Rattle.std.specs.Prelude.{filter, filter_map, is_some, option_to_list, IfSome, All, AllPairs, Contains}
use Rattle.std.specs.List.{list_any, cons_option}
use Rattle.std.proofs.lemmas.Bool.{and_parts, or_parts, both_ways, cases_lt, eq-eqb, eqb-true, leb-false}
use Rattle.std.proofs.lemmas.List.{append-nil, length_push}
use Rattle.std.proofs.lemmas.List.Elements.{All-nil, All-cons, All-same, All-append, All-push, All-weaker, All-contains, Contains-append_left, at_from_Contains, filter-append, filter_map-append}
use Rattle.std.proofs.lemmas.List.Folds.{Any-from_list_any, list_any_at}
use Rattle.std.proofs.lemmas.List.Quantifiers.{all_pairs_push}
use Rattle.trace_reader.specs.declared.trace.TraceLine.{TraceLine}
use Rattle.trace_reader.specs.declared.limits.TheConstants.{MOST_LINES, MOST_MAPS, MOST_NAMED, MOST_FORKS}
use Rattle.trace_reader.specs.Lines.{SoFar, all_some, has_child, is_told, may_name, may_fork, names_rightly, forks_rightly, is_full, with_one}
use Rattle.trace_reader.specs.Values.{IsLineValue, is_call_op, is_maps, child_of, children_of, AreNumbered, NamesACall, AreNamesRight, IsOfParent, NamesInSpace, ForksFromParent, AreForksRight}

-- ---- what the tests of a line say

false_from_not : (b : Bool) → not b ≡ true → b ≡ false
false_from_not true e = absurd cc
false_from_not false e = refl

none_passes : {X : Type 0} (p : X → Bool) (xs : List X) → not (list_any p xs) ≡ true → (k : ℕ) (d : X) → k < length xs
    → p (get_or xs k d) ≡ true → ⊥
none_passes p xs none k d below passes =
    both_ways (list_any p xs) (false_from_not (list_any p xs) none) (list_any_at p xs k d below passes)

apart_from_test : (a b : ℕ) → not (nat_eq a b) ≡ true → a ≢ b
apart_from_test a b e same = both_ways (nat_eq a b) (false_from_not (nat_eq a b) e) (eq-eqb a b same)

-- a thread that is none of these children
abbrev IsNoChild : List ℕ → ℕ → Type 0
IsNoChild children thread = All (λ child. child ≢ thread) children

no_child : (children : List ℕ) (thread : ℕ) → not (has_child children thread) ≡ true → IsNoChild children thread
no_child children thread none = λ k d below same. none_passes (λ child. nat_eq child thread) children none k d below
    (eq-eqb (get_or children k d) thread same)

-- a line of this thread may name this number
record IsTold (lines : List TraceLine) (children : List ℕ) (thread number : ℕ) : Type 0 where
  parent : IsNoChild children thread
  other : TraceLine
  place : Contains lines other
  same : other.number ≡ number
  apart : other.thread ≢ thread
  call : is_call_op other.op ≡ true
  inside : IsNoChild children other.thread

told : (s : SoFar) (thread number : ℕ) → may_name s thread number ≡ true → IsTold s.lines s.children thread number
unfolding may_name
told s thread number e =
    let parts = and_parts (not (has_child s.children thread)) (list_any (is_told s.children thread number) s.lines) e in
    let found = Any-from_list_any (is_told s.children thread number) s.lines parts.1 in
    let other = found.1 in
    let first = and_parts (nat_eq other.number number)
    (is_call_op other.op && (not (nat_eq other.thread thread) && not (has_child s.children other.thread))) found.4 in
    let second = and_parts (is_call_op other.op)
    (not (nat_eq other.thread thread) && not (has_child s.children other.thread)) first.1 in
    let third = and_parts (not (nat_eq other.thread thread)) (not (has_child s.children other.thread)) second.1 in
    record {
      parent = no_child s.children thread parts.0;
      other = other;
      place = (found.0, found.2, found.3);
      same = eqb-true other.number number first.0;
      apart = apart_from_test other.thread thread third.0;
      call = second.0;
      inside = no_child s.children other.thread third.1;
    }

-- a thread may fork this child
record IsNewChild (lines : List TraceLine) (children : List ℕ) (thread child : ℕ) : Type 0 where
  parent : IsNoChild children thread
  apart : child ≢ thread
  once : IsNoChild children child
  before : All (λ other. other.thread ≢ child) lines

new_child : (s : SoFar) (thread child : ℕ) → may_fork s thread child ≡ true → IsNewChild s.lines s.children thread child
unfolding may_fork
new_child s thread child e =
    let stands = list_any (λ (other : TraceLine). nat_eq other.thread child) s.lines in
    let first = and_parts (not (has_child s.children thread)) (not (nat_eq child thread)
    && (not (has_child s.children child) && not stands)) e in
    let second = and_parts (not (nat_eq child thread)) (not (has_child s.children child) && not stands) first.1 in
    let third = and_parts (not (has_child s.children child)) (not stands) second.1 in
    record {
      parent = no_child s.children thread first.0;
      apart = apart_from_test child thread second.0;
      once = no_child s.children child third.0;
      before = λ k d below same. none_passes (λ (other : TraceLine). nat_eq other.thread child) s.lines third.1 k d below
          (eq-eqb (get_or s.lines k d).thread child same);
    }

-- what a line names and forks is right
record IsFit (lines : List TraceLine) (children : List ℕ) (line : TraceLine) : Type 0 where
  names : IfSome line.after (IsTold lines children line.thread)
  forks : IfSome (child_of line.op) (IsNewChild lines children line.thread)

fit : (s : SoFar) (line : TraceLine) → names_rightly s line ≡ true → forks_rightly s line ≡ true → IsFit s.lines s.children line
unfolding names_rightly forks_rightly
fit s line names forks = record { names = by_note line.after names; forks = by_child (child_of line.op) forks }
  where
    by_note : (after : Option ℕ) → all_some (may_name s line.thread) after ≡ true
        → IfSome after (IsTold s.lines s.children line.thread)
    by_note None e = tt
    by_note (Some number) e = told s line.thread number e

    by_child : (child : Option ℕ) → all_some (may_fork s line.thread) child ≡ true
        → IfSome child (IsNewChild s.lines s.children line.thread)
    by_child None e = tt
    by_child (Some child) e = new_child s line.thread child e

-- ---- the children

children-push : (lines : List TraceLine) (line : TraceLine)
    → children_of (lines ++ line ∷ []) ≡ children_of lines ++ option_to_list (child_of line.op)
children-push lines line = filter_map-append (λ (l : TraceLine). child_of l.op) lines (line ∷ [])
    ∙ ap (λ (rest : List ℕ). children_of lines ++ rest) (single (child_of line.op))
  where
    single : (o : Option ℕ) → cons_option o [] ≡ option_to_list o
    single None = refl
    single (Some c) = refl

all_of_option : (P : ℕ → Type 0) (o : Option ℕ) → IfSome o P → All P (option_to_list o)
all_of_option P None h = All-nil P
all_of_option P (Some n) h = All-cons P n [] h (All-nil P)

if_some : {A : Type 0} (P Q : A → Type 0) (o : Option A) → ((x : A) → P x → Q x) → IfSome o P → IfSome o Q
if_some P Q None f h = tt
if_some P Q (Some x) f h = f x h

-- the forks of a line are right after these lines
abbrev Forks : List TraceLine → TraceLine → Type 0
Forks lines line = IfSome (child_of line.op) (IsNewChild lines (children_of lines) line.thread)

parent-push : (lines : List TraceLine) (line : TraceLine) (thread : ℕ) → IsOfParent lines thread
    → IfSome (child_of line.op) (λ child. child ≢ thread) → IsOfParent (lines ++ line ∷ []) thread
parent-push lines line thread known other = let P : ℕ → Type 0 = λ child. child ≢ thread in
    All-same P (children_of (lines ++ line ∷ [])) (children_of lines ++ option_to_list (child_of line.op))
    (children-push lines line)
    (All-append P (children_of lines) (option_to_list (child_of line.op)) known (all_of_option P (child_of line.op) other))

-- a thread that stands above stays one of the first space
parent-above : (lines : List TraceLine) (line : TraceLine) → Forks lines line → (k : ℕ) (d : TraceLine) → k < length lines
    → IsOfParent lines (get_or lines k d).thread → IsOfParent (lines ++ line ∷ []) (get_or lines k d).thread
parent-above lines line forks k d below known = parent-push lines line (get_or lines k d).thread known
    (if_some (IsNewChild lines (children_of lines) line.thread) (λ child. child ≢ (get_or lines k d).thread)
    (child_of line.op) (λ child is same. is.before k d below (sym same)) forks)

-- and so does that of the line
parent-own : (lines : List TraceLine) (line : TraceLine) → Forks lines line → IsOfParent lines line.thread
    → IsOfParent (lines ++ line ∷ []) line.thread
parent-own lines line forks known = parent-push lines line line.thread known
    (if_some (IsNewChild lines (children_of lines) line.thread) (λ child. child ≢ line.thread)
    (child_of line.op) (λ child is. is.apart) forks)

-- ---- the lines that are named

-- this number is that of a line that the line may name
abbrev Names : List TraceLine → TraceLine → ℕ → Type 0
Names lines line number = (other : TraceLine) × Contains lines other × (other.number ≡ number) × (number < line.number)
    × (other.thread ≢ line.thread) × (is_call_op other.op ≡ true)

-- all lines have numbers below this one
abbrev pub AreBelow : ℕ → List TraceLine → Type 0
AreBelow next lines = All (λ line. line.number < next) lines

names_kept : (lines : List TraceLine) (line l : TraceLine) → NamesACall lines l → NamesACall (lines ++ line ∷ []) l
names_kept lines line l = if_some (Names lines l) (Names (lines ++ line ∷ []) l) l.after
    (λ number h. (h.0, Contains-append_left lines (line ∷ []) h.0 h.1, h.2, h.3, h.4, h.5))

names_new : (lines : List TraceLine) (line : TraceLine) → AreBelow line.number lines
    → IfSome line.after (IsTold lines (children_of lines) line.thread) → NamesACall (lines ++ line ∷ []) line
names_new lines line lower = if_some (IsTold lines (children_of lines) line.thread) (Names (lines ++ line ∷ []) line) line.after
    (λ number is. (is.other, Contains-append_left lines (line ∷ []) is.other is.place, is.same, before number is, is.apart, is.call))
  where
    before : (number : ℕ) → IsTold lines (children_of lines) line.thread number → number < line.number
    before number is =
        let same = is.same in
        let below : is.other.number < line.number = All-contains (λ (l : TraceLine). l.number < line.number) lines is.other lower is.place in
        omega arith

names-push : (lines : List TraceLine) (line : TraceLine) → AreBelow line.number lines
    → IfSome line.after (IsTold lines (children_of lines) line.thread) → AreNamesRight lines → AreNamesRight (lines ++ line ∷ [])
names-push lines line lower told known = All-push (NamesACall (lines ++ line ∷ [])) lines line
    (All-weaker (NamesACall lines) (NamesACall (lines ++ line ∷ [])) (λ l. names_kept lines line l) lines known)
    (names_new lines line lower told)

-- the lines of one number are one line
same_line : (lines : List TraceLine) → AreNumbered lines → (other : TraceLine) → Contains lines other → (i : ℕ) (d : TraceLine)
    → i < length lines → (get_or lines i d).number ≡ other.number → get_or lines i d ≡ other
same_line lines numbered other place i d within same =
    let at = at_from_Contains lines other place in
    let here : get_or lines at.0 d ≡ other = at.2 d in
    let number : (get_or lines at.0 d).number ≡ other.number = ap (λ (l : TraceLine). l.number) here in
    elim (cases_lt i at.0) [
      | inl before ↦ absurd (omega (arith, numbered i at.0 d before at.1))
      | inr past ↦ elim (cases_lt at.0 i) [
        | inl behind ↦ absurd (omega (arith, numbered at.0 i d behind within))
        | inr there ↦
            let place_is : i ≡ at.0 = omega arith in
            ap (λ (n : ℕ). get_or lines n d) place_is ∙ here
      ]
    ]

-- the thread of a line, and those of the lines of this number, are of the first space
abbrev Inside : List TraceLine → ℕ → ℕ → Type 0
Inside lines thread number = IsOfParent lines thread
    × All (λ other. other.number ≡ number → IsOfParent lines other.thread) lines

inside_kept : (lines : List TraceLine) (line : TraceLine) → Forks lines line → AreBelow line.number lines → (k : ℕ) (d : TraceLine)
    → k < length lines → (after : Option ℕ) → IfSome after (Names lines (get_or lines k d))
    → IfSome after (Inside lines (get_or lines k d).thread) → IfSome after (Inside (lines ++ line ∷ []) (get_or lines k d).thread)
inside_kept lines line forks lower k d below None names inside = tt
inside_kept lines line forks lower k d below (Some number) names inside = (
  parent-above lines line forks k d below inside.0,
  All-push (λ (other : TraceLine). other.number ≡ number → IsOfParent (lines ++ line ∷ []) other.thread) lines line
      (λ i e within same. parent-above lines line forks i e within (inside.1 i e within same))
      (λ same. absurd (omega (arith, names.3, lower k d below))),
)

inside_new : (lines : List TraceLine) (line : TraceLine) → Forks lines line → AreBelow line.number lines → AreNumbered lines
    → (after : Option ℕ) → IfSome after (IsTold lines (children_of lines) line.thread)
    → IfSome after (Inside (lines ++ line ∷ []) line.thread)
inside_new lines line forks lower numbered None is = tt
inside_new lines line forks lower numbered (Some number) is =
    let below : is.other.number < line.number = All-contains (λ (l : TraceLine). l.number < line.number) lines is.other lower is.place in
    let told_number = is.same in (
      parent-own lines line forks is.parent,
      All-push (λ (other : TraceLine). other.number ≡ number → IsOfParent (lines ++ line ∷ []) other.thread) lines line
          (λ i e within same. parent-above lines line forks i e within
          (subst (λ (l : TraceLine). IsOfParent lines l.thread)
          (sym (same_line lines numbered is.other is.place i e within (same ∙ sym is.same))) is.inside))
          (λ same. absurd (omega arith)),
    )

inside-push : (lines : List TraceLine) (line : TraceLine) → IsFit lines (children_of lines) line → AreBelow line.number lines
    → AreNumbered lines → AreNamesRight lines → All (NamesInSpace lines) lines
    → All (NamesInSpace (lines ++ line ∷ [])) (lines ++ line ∷ [])
inside-push lines line is lower numbered names inside = All-push (NamesInSpace (lines ++ line ∷ [])) lines line
    (λ k d below. inside_kept lines line is.forks lower k d below (get_or lines k d).after (names k d below) (inside k d below))
    (inside_new lines line is.forks lower numbered line.after is.names)

-- ---- the forks

once-push : (children : List ℕ) (o : Option ℕ) → AllPairs (λ a b. a ≢ b) children → IfSome o (IsNoChild children)
    → AllPairs (λ a b. a ≢ b) (children ++ option_to_list o)
once-push children None known other =
    let P : List ℕ → Type 0 = λ cs. AllPairs (λ a b. a ≢ b) cs in subst P (sym (append-nil children)) known
once-push children (Some child) known other = all_pairs_push (λ (a b : ℕ). a ≢ b) children child known other

not_behind : (lines : List TraceLine) (children : List ℕ) (thread : ℕ) (o : Option ℕ) → IfSome o (IsNewChild lines children thread)
    → (k : ℕ) (d : TraceLine) → k < length lines → o ≢ Some (get_or lines k d).thread
not_behind lines children thread None is k d below same = absurd cc
not_behind lines children thread (Some child) is k d below same =
    let it : child ≡ (get_or lines k d).thread = cc in is.before k d below (sym it)

forks-push : (lines : List TraceLine) (line : TraceLine) → Forks lines line → AreForksRight lines
    → AreForksRight (lines ++ line ∷ [])
forks-push lines line forks known =
    let P : List ℕ → Type 0 = λ cs. AllPairs (λ a b. a ≢ b) cs in
    record {
      once = subst P (sym (children-push lines line)) (once-push (children_of lines) (child_of line.op) known.once
          (if_some (IsNewChild lines (children_of lines) line.thread) (IsNoChild (children_of lines)) (child_of line.op)
          (λ child is. is.once) forks));
      parent = All-push (ForksFromParent (lines ++ line ∷ [])) lines line
          (λ k d below. if_some (λ _. IsOfParent lines (get_or lines k d).thread)
          (λ _. IsOfParent (lines ++ line ∷ []) (get_or lines k d).thread) (child_of (get_or lines k d).op)
          (λ _ parent. parent-above lines line forks k d below parent) (known.parent k d below))
          (if_some (IsNewChild lines (children_of lines) line.thread) (λ _. IsOfParent (lines ++ line ∷ []) line.thread)
          (child_of line.op) (λ _ is. parent-own lines line forks is.parent) forks);
      behind = all_pairs_push (λ (earlier later : TraceLine). child_of later.op ≢ Some earlier.thread) lines line known.behind
          (not_behind lines (children_of lines) line.thread (child_of line.op) forks);
    }

-- ---- how many there are

count-push : (p : TraceLine → Bool) (lines : List TraceLine) (line : TraceLine)
    → (if p line then length (filter p lines) + 1 else length (filter p lines)) ≡ length (filter p (lines ++ line ∷ []))
count-push p lines line = sym (ap length (filter-append p lines (line ∷ []))
    ∙ length-append (filter p lines) (filter p (line ∷ [])) ∙ single (p line))
  where
    single : (b : Bool) → length (filter p lines) + length (cond b (line ∷ []) [])
        ≡ (if b then length (filter p lines) + 1 else length (filter p lines))
    single true = omega arith
    single false = omega arith

bounded : (passes : Bool) (n most : ℕ) → n ≤ most → (passes && nat_le most n) ≡ false → (if passes then n + 1 else n) ≤ most
bounded true n most low room = omega (arith, leb-false most n room)
bounded false n most low room = low

children_bounded : (children : List ℕ) (o : Option ℕ) (most : ℕ) → length children ≤ most
    → (is_some o && nat_le most (length children)) ≡ false → length (children ++ option_to_list o) ≤ most
children_bounded children None most low room = omega (arith, ap length (append-nil children))
children_bounded children (Some child) most low room = omega (arith, leb-false most (length children) room, length_push children child)

-- what holds of the lines that were read, with numbers below this one, and of what is kept of them
pub record AreRead (next : ℕ) (lines : List TraceLine) (children : List ℕ) (maps named : ℕ) : Type 0 where
  pub few : length lines ≤ MOST_LINES
  pub values : All IsLineValue lines
  pub below : AreBelow next lines
  pub numbered : AreNumbered lines
  pub names : AreNamesRight lines
  pub inside : All (NamesInSpace lines) lines
  pub forks : AreForksRight lines
  pub are_children : children ≡ children_of lines
  pub are_maps : maps ≡ length (filter (λ line. is_maps line.op) lines)
  pub are_named : named ≡ length (filter (λ line. is_some line.after) lines)
  pub few_named : named ≤ MOST_NAMED
  pub few_forks : length children ≤ MOST_FORKS
  pub few_reads : maps ≤ MOST_MAPS

-- what holds of the counts of a line's tests
record HasRoom (s : SoFar) (line : TraceLine) : Type 0 where
  lines : length s.lines < MOST_LINES
  maps : (is_maps line.op && nat_le MOST_MAPS s.maps) ≡ false
  named : (is_some line.after && nat_le MOST_NAMED s.named) ≡ false
  forks : (is_some (child_of line.op) && nat_le MOST_FORKS (length s.children)) ≡ false

has_room : (s : SoFar) (line : TraceLine) → is_full s line ≡ false → HasRoom s line
unfolding is_full
has_room s line e =
    let forks = is_some (child_of line.op) && nat_le MOST_FORKS (length s.children) in
    let named = is_some line.after && nat_le MOST_NAMED s.named in
    let maps = is_maps line.op && nat_le MOST_MAPS s.maps in
    let first = or_parts (nat_le MOST_LINES (length s.lines)) (maps || (named || forks)) e in
    let second = or_parts maps (named || forks) first.1 in
    let third = or_parts named forks second.1 in
    record { lines = leb-false MOST_LINES (length s.lines) first.0; maps = second.0; named = third.0; forks = third.1 }

-- one line more
pub AreRead-push : (s : SoFar) (line : TraceLine) → AreRead line.number s.lines s.children s.maps s.named → IsLineValue line
    → names_rightly s line ≡ true → forks_rightly s line ≡ true → is_full s line ≡ false
    → AreRead (line.number + 1) (with_one s line).lines (with_one s line).children (with_one s line).maps (with_one s line).named
unfolding with_one
AreRead-push s line known fits names forks full =
    let is : IsFit s.lines (children_of s.lines) line =
    subst (λ (cs : List ℕ). IsFit s.lines cs line) known.are_children (fit s line names forks) in
    let room = has_room s line full in
    record {
      few = omega (arith, room.lines, length_push s.lines line);
      values = All-push IsLineValue s.lines line known.values fits;
      below = All-push (λ (l : TraceLine). l.number < line.number + 1) s.lines line
          (All-weaker (λ (l : TraceLine). l.number < line.number) (λ (l : TraceLine). l.number < line.number + 1)
          (λ l lower. omega arith) s.lines known.below) (omega arith);
      numbered = all_pairs_push (λ (earlier later : TraceLine). earlier.number < later.number) s.lines line known.numbered known.below;
      names = names-push s.lines line known.below is.names known.names;
      inside = inside-push s.lines line is known.below known.numbered known.names known.inside;
      forks = forks-push s.lines line is.forks known.forks;
      are_children = ap (λ (cs : List ℕ). cs ++ option_to_list (child_of line.op)) known.are_children
          ∙ sym (children-push s.lines line);
      are_maps = ap (λ (n : ℕ). if is_maps line.op then n + 1 else n) known.are_maps
          ∙ count-push (λ (l : TraceLine). is_maps l.op) s.lines line;
      are_named = ap (λ (n : ℕ). if is_some line.after then n + 1 else n) known.are_named
          ∙ count-push (λ (l : TraceLine). is_some l.after) s.lines line;
      few_named = bounded (is_some line.after) s.named MOST_NAMED known.few_named room.named;
      few_forks = children_bounded s.children (child_of line.op) MOST_FORKS known.few_forks room.forks;
      few_reads = bounded (is_maps line.op) s.maps MOST_MAPS known.few_reads room.maps;
    }

-- no line yet
pub AreRead-nil : AreRead 1 [] [] 0 0
AreRead-nil = record {
  few = omega arith;
  values = All-nil IsLineValue;
  below = All-nil (λ (l : TraceLine). l.number < 1);
  numbered = λ i j d before within. absurd (omega arith);
  names = All-nil (NamesACall []);
  inside = All-nil (NamesInSpace []);
  forks = record {
    once = λ i j d before within. absurd (omega arith);
    parent = All-nil (ForksFromParent []);
    behind = λ i j d before within. absurd (omega arith);
  };
  are_children = refl;
  are_maps = refl;
  are_named = refl;
  few_named = omega arith;
  few_forks = omega arith;
  few_reads = omega arith;
}

-- and the same with another number
pub AreRead-later : (next : ℕ) (lines : List TraceLine) (children : List ℕ) (maps named : ℕ) → AreRead next lines children maps named
    → AreRead (next + 1) lines children maps named
AreRead-later next lines children maps named known = record {
  few = known.few;
  values = known.values;
  below = All-weaker (λ (l : TraceLine). l.number < next) (λ (l : TraceLine). l.number < next + 1)
      (λ l lower. omega arith) lines known.below;
  numbered = known.numbered;
  names = known.names;
  inside = known.inside;
  forks = known.forks;
  are_children = known.are_children;
  are_maps = known.are_maps;
  are_named = known.are_named;
  few_named = known.few_named;
  few_forks = known.few_forks;
  few_reads = known.few_reads;
}
