-- Serves `held.rt`: where a search finds the first newline, and what is left behind a line.
use Rattle.std.proofs.Common.{◌≡◌, ◌+◌, ◌-◌, ◌<◌, ◌≤◌, ◌∙◌, ℕ, false, List, ◌++◌, length, take, drop, get_or, Option, Some, None, MatchOption, sym, ap, subst, arith, length-drop, min, take-append-drop}
use Rattle.std.proofs.lemmas.Bool.{eqb-true, false_from_ne_true}
use Rattle.std.proofs.lemmas.Grind.{get_or_default_zero}
use Rattle.std.proofs.lemmas.List.{drop-drop, drop-take, get_or-drop, get_or-take, length-take, length-take-le, take_at, take_min, take-take}
use Rattle.std.proofs.lemmas.List.Elements.{All-append}
use Rattle.memchr.specs.Find.{IsFirstByte, is_byte}
use Rattle.text_lexer.specs.Lines.{is_newline}
use Rattle.live_session.specs.declared.held.TheConstants.{MOST_KEPT, PIECE}
use Rattle.live_session.specs.Internal.Held.{HasNewlineAt, HasNoNewline, AreBytesHeld, kept}

pub found_line : (bytes : List ℕ) (found : Option ℕ) → IsFirstByte (is_byte 10) bytes found → MatchOption found (HasNoNewline bytes) (HasNewlineAt bytes)
found_line bytes None nowhere = λ k d below.
    ap is_newline (get_or_default_zero bytes k d below) ∙ false_from_ne_true _ (nowhere k (omega arith) below)
found_line bytes (Some len) first = record {
  within = first.0.high;
  newline = eqb-true (get_or bytes len 0) 10 first.1;
  single = λ k d below.
      let before : k < len = omega (arith, below, length-take-le len bytes (omega (arith, first.0.high))) in
      ap is_newline (get_or-take len bytes k d before ∙ get_or_default_zero bytes k d (omega (arith, first.0.high)))
      ∙ false_from_ne_true _ (first.0.before k (omega arith) before);
}

-- where the front has none, nor has the rest
pub none_all : (bytes : List ℕ) (n : ℕ) → HasNoNewline (take n bytes) → HasNoNewline (drop n bytes) → HasNoNewline bytes
none_all bytes n front rest = subst HasNoNewline (take-append-drop n bytes)
    (All-append (λ c. is_newline c ≡ false) (take n bytes) (drop n bytes) front rest)

-- or the first is found in the rest
pub line_behind : (bytes : List ℕ) (n len : ℕ) → HasNoNewline (take n bytes) → HasNewlineAt (drop n bytes) len → HasNewlineAt bytes (n + len)
line_behind bytes n len front has =
    let parts : take (n + len) bytes ≡ take n bytes ++ take len (drop n bytes) =
    sym (take-append-drop n (take (n + len) bytes))
    ∙ ap (λ (l : List ℕ). l ++ drop n (take (n + len) bytes)) (take-take n (n + len) bytes (omega arith))
    ∙ ap (λ (l : List ℕ). take n bytes ++ l) (drop-take n len bytes) in
    record {
      within = omega (arith, has.within, length-drop n bytes);
      newline = sym (get_or-drop n bytes len 0) ∙ has.newline;
      single = subst HasNoNewline (sym parts) (All-append (λ c. is_newline c ≡ false) (take n bytes) (take len (drop n bytes)) front has.single);
    }

-- a search behind what was searched
pub found_behind : (bytes : List ℕ) (n : ℕ) (found : Option ℕ) → HasNoNewline (take n bytes) → IsFirstByte (is_byte 10) (drop n bytes) found
    → MatchOption found (HasNoNewline bytes) (λ len. HasNewlineAt bytes (n + len))
found_behind bytes n None front nowhere = none_all bytes n front (found_line (drop n bytes) None nowhere)
found_behind bytes n (Some len) front first = line_behind bytes n len front (found_line (drop n bytes) (Some len) first)

-- ---- a front is kept

pub none_take : (bytes : List ℕ) (n : ℕ) → HasNoNewline bytes → HasNoNewline (take n bytes)
none_take bytes n none = λ k d below.
    ap is_newline (get_or-take n bytes k d (omega (arith, below, length-take n bytes)))
    ∙ none k d (omega (arith, below, length-take n bytes))

-- the rest of bytes is cut to what is kept of it
pub kept_rest : (bytes new : List ℕ) (at count : ℕ) → at ≤ length bytes → count ≡ min MOST_KEPT (length (drop at bytes)) → new ≡ take (at + count) bytes
    → drop at new ≡ kept (drop at bytes)
kept_rest bytes new at count within is cut =
    ap (drop at) cut ∙ drop-take at count bytes
    ∙ ap (λ (n : ℕ). take n (drop at bytes)) is ∙ take_min MOST_KEPT (drop at bytes)

pub kept_held : (bytes new : List ℕ) (at count : ℕ) → at ≤ length bytes → count ≡ min MOST_KEPT (length (drop at bytes)) → new ≡ take (at + count) bytes
    → HasNoNewline (drop at bytes) → length bytes ≤ MOST_KEPT + PIECE → AreBytesHeld new at count
kept_held bytes new at count within is cut none few =
    let fits : at + count ≤ length bytes = omega (arith, is, length-drop at bytes) in
    let long : length new ≡ at + count = ap length cut ∙ length-take-le (at + count) bytes fits in
    record {
      within = omega (arith, long);
      none = none_take (drop at new) count
          (subst HasNoNewline (sym (kept_rest bytes new at count within is cut)) (none_take (drop at bytes) MOST_KEPT none));
      few = omega (arith, long, fits, few);
    }

-- ---- what was answered is dropped

-- what was answered is turned to the end and cut off
pub forgotten : (bytes : List ℕ) (at : ℕ) → at ≤ length bytes → take (length bytes - at) (drop at bytes ++ take at bytes) ≡ drop at bytes
forgotten bytes at within = take_at (drop at bytes) (take at bytes) (length bytes - at) (length-drop at bytes)

-- a line is passed
pub passed : (bytes : List ℕ) (at len : ℕ) → drop (at + (len + 1)) bytes ≡ drop (len + 1) (drop at bytes)
passed bytes at len = sym (drop-drop (len + 1) at bytes)
