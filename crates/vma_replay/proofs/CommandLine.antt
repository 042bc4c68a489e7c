-- For `job_of`: what `clap` finds in words of which none begins with `-`, and that other words name no job.
use Rattle.std.proofs.Common.{ℕ, ap, refl, codes, true, false, map, fold, List, Option, Some, None, [], ◌∷◌, ◌++◌, ◌≡◌, ◌∙◌, ◌==◌, ◌||◌, Bool, slice_index, string_bytes, sym, append_assoc, append-nil, inl, inr}
use Rattle.std.specs.Prelude.{String, ◌&&◌, ◌⊎◌, length, not, nat_le, nat_lt, option_and_then, if◌then◌else◌}
use Rattle.std.specs.declared.alloc.Global.{Global}
use Rattle.std.specs.List.{list_any}
use Rattle.std.specs.Str.{bytes_eq}
use Rattle.std.specs.Str.Parse.{digits_value}
use Rattle.std.proofs.lemmas.Bool.{eqb-true, false_from_ne_true}
use Rattle.std.proofs.lemmas.Slice.Eq.{bytes_eq-Decides}
use Rattle.clap.specs.Lexer.{long_of, short_of}
use Rattle.clap.specs.Simple.{built}
use Rattle.clap.specs.Walk.{Rule, Text, Walk, finished, idle, positional, nothing_held, settled_rows, walk_from, walked}
use Rattle.clap.specs.Words.{matches_of, takes}
use Rattle.clap.proofs.OnLiterals.{clap_on_literals}
use Rattle.text_lexer.specs.Numbers.{decimal_of, digits_of, number_of}
use Rattle.vma_replay.specs.declared.words.Job.{Job}
use Rattle.vma_replay.specs.Jobs.{generate_words, job_of_words, named_job, operation_count, query_words}
use Rattle.vma_replay.specs.Jobs.{are_tried, begin_with_mode, begins_with_dash, is_mode}
use Rattle.vma_replay.specs.Internal.CommandLine.{job_of_rows, words_command}

-- a text that does not begin with `-`
abbrev Plain : Text → Type 0
Plain t = (slice_index t 0 == 45) ≡ false

-- is no `--`, no long option and no short one
no_dashes : (t : Text) → Plain t → bytes_eq t (45 ∷ 45 ∷ []) ≡ false
no_dashes [] plain = refl
no_dashes (x ∷ xs) plain = let other : (x == 45) ≡ false = plain in rw other refl

no_long : (t : Text) → Plain t → long_of t ≡ None
no_long [] plain = refl
no_long (x ∷ xs) plain = let other : (x == 45) ≡ false = plain in rw other refl

no_short : (t : Text) → Plain t → short_of t ≡ None
no_short [] plain = refl
no_short (x ∷ xs) plain = let other : (x == 45) ≡ false = plain in rw other refl

-- the two arguments of the command, as it is built
unfoldable rules : List Rule
unfolding words_command
rules = (built words_command).top.rules

-- the walk after a first word
unfoldable after_mode : Text → Walk
after_mode t = record {
  held = record { rows = []; pending = Some (codes "mode", t ∷ []); skip = 0 };
  waiting = idle;
  position = 2;
  is_trailing = false;
  stopped = None;
}

after_first : (t : Text) → Plain t → walked rules [] (walk_from nothing_held) t ≡ after_mode t
unfolding clap_on_literals rules after_mode
after_first t plain = rw (no_dashes t plain, no_long t plain, no_short t plain) refl

-- and after a second, which begins the rest
unfoldable after_rest : Text → List Text → Walk
after_rest t rest = record {
  held = record {
    rows = settled_rows rules (Some (codes "mode", t ∷ [])) [];
    pending = Some (codes "rest", rest);
    skip = 0;
  };
  waiting = positional;
  position = 2;
  is_trailing = false;
  stopped = None;
}

after_second : (t u : Text) → Plain u → walked rules [] (after_mode t) u ≡ after_rest t (u ∷ [])
unfolding clap_on_literals rules after_mode after_rest
after_second t u plain = rw (no_dashes u plain, no_long u plain, no_short u plain) refl

after_another : (t u : Text) (rest : List Text) → Plain u → walked rules [] (after_rest t rest) u ≡ after_rest t (rest ++ u ∷ [])
unfolding clap_on_literals rules after_rest
after_another t u rest plain = rw (no_dashes u plain, no_long u plain, no_short u plain) refl

-- none of the words begins with `-`: neither the first, nor one after it
neither : (a b : Bool) → (a || b) ≡ false → (a ≡ false) × (b ≡ false)
neither true b none = cc
neither false b none = (refl, none)

-- any number of words joins the rest
after_words : (t : Text) (rest : List Text) (words : List (String Global)) → list_any begins_with_dash words ≡ false
    → fold (walked rules []) (after_rest t rest) (map string_bytes words) ≡ after_rest t (rest ++ map string_bytes words)
after_words t rest [] none = ap (after_rest t) (sym (append-nil rest))
after_words t rest (w ∷ ws) none =
    let plain = neither (begins_with_dash w) (list_any begins_with_dash ws) none in
    ap (λ walk. fold (walked rules []) walk (map string_bytes ws)) (after_another t (string_bytes w) rest plain.0)
    ∙ after_words t (rest ++ string_bytes w ∷ []) ws plain.1
    ∙ ap (after_rest t) (append_assoc rest (string_bytes w ∷ []) (map string_bytes ws))

-- with no word after it the first word is all that is found
one_word : (t : Text) → job_of_rows (finished rules (after_mode t).held) ≡ named_job t []
unfolding clap_on_literals rules after_mode job_of_rows
one_word t = refl

-- and with more they are found as the rest
more_words : (t u : Text) (rest : List Text) → job_of_rows (finished rules (after_rest t (u ∷ rest)).held) ≡ named_job t (u ∷ rest)
unfolding clap_on_literals rules after_rest job_of_rows
more_words t u rest = refl

matches_walk : (texts : List Text) → matches_of words_command texts ≡ finished rules (fold (walked rules []) (walk_from nothing_held) texts).held
unfolding rules words_command
matches_walk texts = refl

no_words : job_of_rows (matches_of words_command []) ≡ None
unfolding clap_on_literals words_command job_of_rows
no_words = refl

-- the values name the job that the words name
named_by_words : (words : List (String Global)) → list_any begins_with_dash words ≡ false
    → job_of_rows (matches_of words_command (map string_bytes words)) ≡ job_of_words words
named_by_words [] none = no_words
named_by_words (w ∷ []) none =
    let plain = neither (begins_with_dash w) false none in
    ap job_of_rows (matches_walk (string_bytes w ∷ [])
    ∙ ap (λ walk. finished rules walk.held) (after_first (string_bytes w) plain.0))
    ∙ one_word (string_bytes w)
named_by_words (w ∷ v ∷ ws) none =
    let first = neither (begins_with_dash w) (list_any begins_with_dash (v ∷ ws)) none in
    let second = neither (begins_with_dash v) (list_any begins_with_dash ws) first.1 in
    let t = string_bytes w in
    let u = string_bytes v in
    let begun : walked rules [] (walked rules [] (walk_from nothing_held) t) u ≡ after_rest t (u ∷ []) =
    ap (λ walk. walked rules [] walk u) (after_first t first.0) ∙ after_second t u second.0 in
    let whole : fold (walked rules []) (walk_from nothing_held) (map string_bytes (w ∷ v ∷ ws)) ≡ after_rest t (u ∷ map string_bytes ws) =
    ap (λ walk. fold (walked rules []) walk (map string_bytes ws)) begun ∙ after_words t (u ∷ []) ws second.1 in
    ap job_of_rows (matches_walk _ ∙ ap (λ walk. finished rules walk.held) whole) ∙ more_words t u (map string_bytes ws)

-- `clap` takes a word alone, and one with one or two words after it
one_taken : (t : Text) → Plain t → takes words_command (t ∷ []) ≡ true
unfolding clap_on_literals words_command
one_taken t plain = rw (no_dashes t plain, no_long t plain, no_short t plain) refl

two_taken : (t u : Text) → Plain t → Plain u → takes words_command (t ∷ u ∷ []) ≡ true
unfolding clap_on_literals words_command
two_taken t u first second = rw (no_dashes t first, no_long t first, no_short t first, no_dashes u second, no_long u second, no_short u second) refl

three_taken : (t u v : Text) → Plain t → Plain u → Plain v → takes words_command (t ∷ u ∷ v ∷ []) ≡ true
unfolding clap_on_literals words_command
three_taken t u v first second third = rw (
  no_dashes t first,
  no_long t first,
  no_short t first,
  no_dashes u second,
  no_long u second,
  no_short u second,
  no_dashes v third,
  no_long v third,
  no_short v third,
) refl

-- more than three words are none of the accepted lists
none_named : (a b c d e f g : Bool) (x : Option Job) → x ≡ None
    → (if a then x else if b then x else if c then x else if d then x else if e then x else if f then x else if g then x else None) ≡ None
none_named true b c d e f g x none = none
none_named false true c d e f g x none = none
none_named false false true d e f g x none = none
none_named false false false true e f g x none = none
none_named false false false false true f g x none = none
none_named false false false false false true g x none = none
none_named false false false false false false true x none = none
none_named false false false false false false false x none = refl

none_of : (name : Text) (x : Option Job) → x ≡ None → (if bytes_eq name (codes "serial") then x else if bytes_eq name (codes "threads") then x
    else if bytes_eq name (codes "steps") then x else if bytes_eq name (codes "retrace") then x else if bytes_eq name (codes "check") then x
    else if bytes_eq name (codes "query") then x else if bytes_eq name (codes "generate") then x else None) ≡ None
none_of name = none_named (bytes_eq name (codes "serial")) (bytes_eq name (codes "threads")) (bytes_eq name (codes "steps"))
    (bytes_eq name (codes "retrace")) (bytes_eq name (codes "check")) (bytes_eq name (codes "query")) (bytes_eq name (codes "generate"))

-- words that `clap` refuses name no job
refused : (words : List (String Global)) → list_any begins_with_dash words ≡ false
    → (takes words_command (map string_bytes words) ≡ true → ⊥) → job_of_words words ≡ None
unfolding named_job
refused [] none refuses = refl
refused (w ∷ []) none refuses = absurd (refuses (one_taken (string_bytes w) (neither (begins_with_dash w) false none).0))
refused (w ∷ v ∷ []) none refuses =
    let first = neither (begins_with_dash w) (list_any begins_with_dash (v ∷ [])) none in
    let second = neither (begins_with_dash v) false first.1 in
    absurd (refuses (two_taken (string_bytes w) (string_bytes v) first.0 second.0))
refused (w ∷ v ∷ u ∷ []) none refuses =
    let first = neither (begins_with_dash w) (list_any begins_with_dash (v ∷ u ∷ [])) none in
    let second = neither (begins_with_dash v) (list_any begins_with_dash (u ∷ [])) first.1 in
    let third = neither (begins_with_dash u) false second.1 in
    absurd (refuses (three_taken (string_bytes w) (string_bytes v) (string_bytes u) first.0 second.0 third.0))
refused (w ∷ v ∷ u ∷ x ∷ ws) none refuses = none_of (string_bytes w) None refl

-- and so do words of which one begins with `-`
not_dash_named : (name t : Text) → (slice_index name 0 == 45) ≡ false → (slice_index t 0 == 45) ≡ true → bytes_eq t name ≡ false
not_dash_named name t plain dash = false_from_ne_true (bytes_eq t name) (λ same.
    let other : (slice_index t 0 == 45) ≡ false = ap (λ text. slice_index text 0 == 45) ((bytes_eq-Decides t name).0 same) ∙ plain in
    cc)

-- a word that begins with `-` is no number
never : (a b : Bool) (n : ℕ) → (if a && (b && false) then Some n else None) ≡ None
never true true n = refl
never true false n = refl
never false b n = refl

no_number : (t : Text) → (slice_index t 0 == 45) ≡ true → number_of t ≡ None
unfolding digits_of number_of
no_number [] dash = absurd (cc)
no_number (c ∷ t) dash =
    let is : c ≡ 45 = eqb-true c 45 dash in
    rw is (never (nat_lt 0 (length (45 ∷ t))) (nat_le (length (45 ∷ t)) 20) (digits_value 10 (45 ∷ t)))

no_decimal : (t : Text) → (slice_index t 0 == 45) ≡ true → decimal_of t ≡ None
unfolding digits_of
no_decimal [] dash = absurd (cc)
no_decimal (c ∷ t) dash =
    let is : c ≡ 45 = eqb-true c 45 dash in
    rw is (never (nat_lt 0 (length (45 ∷ t))) (nat_le (length (45 ∷ t)) 20) (digits_value 10 (45 ∷ t)))

either : (a b : Bool) → (a || b) ≡ true → (a ≡ true) ⊎ (b ≡ true)
either true b some = inl refl
either false b some = inr some

-- a first word that begins with `-` names no job, whatever follows
first_dash : (name : Text) (rest : List Text) → (slice_index name 0 == 45) ≡ true → named_job name rest ≡ None
unfolding named_job
first_dash name rest dash = rw (
  not_dash_named (codes "serial") name refl dash,
  not_dash_named (codes "threads") name refl dash,
  not_dash_named (codes "steps") name refl dash,
  not_dash_named (codes "retrace") name refl dash,
  not_dash_named (codes "check") name refl dash,
  not_dash_named (codes "query") name refl dash,
  not_dash_named (codes "generate") name refl dash,
) refl

-- words after the first, of which one begins with `-`, name none with `generate`
dash_after : (v : String Global) (ws : List (String Global)) → list_any begins_with_dash (v ∷ ws) ≡ true
    → generate_words (map string_bytes (v ∷ ws)) ≡ None
dash_after v [] dash = refl
dash_after v (u ∷ []) dash = elim (either (begins_with_dash v) (list_any begins_with_dash (u ∷ [])) dash) [
  | inl second ↦ rw (no_decimal (string_bytes v) second) refl
  | inr last ↦ elim (either (begins_with_dash u) false last) [
    | inl third ↦ rw (no_decimal (string_bytes u) third) (no_seed None refl (operation_count (string_bytes v)))
    | inr none ↦ absurd (cc)
  ]
]
  where
    no_seed : (job : Option Job) → job ≡ None → (count : Option ℕ) → option_and_then (λ operations. job) count ≡ job
    no_seed job is None = sym is
    no_seed job is (Some count) = refl
dash_after v (u ∷ x ∷ ws) dash = refl

-- nor with `query`
dash_queried : (v : String Global) (ws : List (String Global)) → list_any begins_with_dash (v ∷ ws) ≡ true
    → query_words (map string_bytes (v ∷ ws)) ≡ None
dash_queried v [] dash = elim (either (begins_with_dash v) false dash) [
  | inl first ↦ rw (no_number (string_bytes v) first) refl
  | inr none ↦ absurd (cc)
]
dash_queried v (u ∷ ws) dash = refl

dash_refused : (words : List (String Global)) → list_any begins_with_dash words ≡ true → job_of_words words ≡ None
unfolding named_job
dash_refused [] dash = refl
dash_refused (w ∷ []) dash = elim (either (begins_with_dash w) false dash) [
  | inl first ↦ first_dash (string_bytes w) [] first
  | inr none ↦ absurd (cc)
]
dash_refused (w ∷ v ∷ ws) dash = elim (either (begins_with_dash w) (list_any begins_with_dash (v ∷ ws)) dash) [
  | inl first ↦ first_dash (string_bytes w) (map string_bytes (v ∷ ws)) first
  | inr later ↦ rw (dash_after v ws later, dash_queried v ws later) (none_of (string_bytes w) None refl)
]

-- and words that begin with no mode
no_mode_named : (a b c d e f g : Bool) (s t u v w x y : Option Job) → (a || b || c || d || e || f || g) ≡ false
    → (if a then s else if b then t else if c then u else if d then v else if e then w else if f then x else if g then y else None) ≡ None
no_mode_named true b c d e f g s t u v w x y none = absurd cc
no_mode_named false true c d e f g s t u v w x y none = absurd cc
no_mode_named false false true d e f g s t u v w x y none = absurd cc
no_mode_named false false false true e f g s t u v w x y none = absurd cc
no_mode_named false false false false true f g s t u v w x y none = absurd cc
no_mode_named false false false false false true g s t u v w x y none = absurd cc
no_mode_named false false false false false false true s t u v w x y none = absurd cc
no_mode_named false false false false false false false s t u v w x y none = refl

no_mode_refused : (words : List (String Global)) → begin_with_mode words ≡ false → job_of_words words ≡ None
unfolding named_job is_mode
no_mode_refused [] none = refl
no_mode_refused (w ∷ ws) none =
    let name = string_bytes w in
    no_mode_named (bytes_eq name (codes "serial")) (bytes_eq name (codes "threads")) (bytes_eq name (codes "steps"))
    (bytes_eq name (codes "retrace")) (bytes_eq name (codes "check")) (bytes_eq name (codes "query")) (bytes_eq name (codes "generate"))
    _ _ _ _ _ _ _ none

-- words that are not tried name no job
pub untried : (words : List (String Global)) → are_tried words ≡ false → job_of_words words ≡ None
untried words none = by_tests (begin_with_mode words) (list_any begins_with_dash words) refl refl none
  where
    by_tests : (mode dash : Bool) → begin_with_mode words ≡ mode → list_any begins_with_dash words ≡ dash → (mode && not dash) ≡ false
        → job_of_words words ≡ None
    by_tests false dash is_mode is_dash none = no_mode_refused words is_mode
    by_tests true true is_mode is_dash none = dash_refused words is_dash
    by_tests true false is_mode is_dash none = absurd cc

-- and those that are have no word that begins with `-`
none_dashed : (words : List (String Global)) → are_tried words ≡ true → list_any begins_with_dash words ≡ false
none_dashed words all = by_tests (begin_with_mode words) (list_any begins_with_dash words) all
  where
    by_tests : (mode dash : Bool) → (mode && not dash) ≡ true → dash ≡ false
    by_tests mode false all = refl
    by_tests true true all = absurd cc
    by_tests false true all = absurd cc

-- so the values that `clap` finds name the job that they name
pub tried_named : (words : List (String Global)) → are_tried words ≡ true
    → job_of_rows (matches_of words_command (map string_bytes words)) ≡ job_of_words words
tried_named words all = named_by_words words (none_dashed words all)

-- and if it refuses them, they name none
pub tried_refused : (words : List (String Global)) → are_tried words ≡ true
    → (takes words_command (map string_bytes words) ≡ true → ⊥) → job_of_words words ≡ None
tried_refused words all = refused words (none_dashed words all)
