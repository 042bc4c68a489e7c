-- For `read_maps` and the laws: the lines that were read are in order, one for each line of the bytes.
use Rattle.std.proofs.Common.{◌≡◌, ℕ, ◌+◌, ◌-◌, ◌<◌, ◌≤◌, true, List, [], ◌∷◌, ◌++◌, length, Ok, nat_lt, nat_le, All, AllPairs, sym, ap, subst, ◌∙◌, arith, append_assoc, append-nil, length-append}
use Rattle.std.specs.List.{AllZip}
use Rattle.std.proofs.lemmas.Bool.{and_parts, ltb-true, leb-true}
use Rattle.std.proofs.lemmas.List.{get_or_push}
use Rattle.std.proofs.lemmas.List.Elements.{All-push}
use Rattle.std.proofs.lemmas.List.Quantifiers.{all_pairs_push}
use Rattle.std.proofs.lemmas.Option.{slice_get-get_or}
use Rattle.text_lexer.specs.BadLines.{lines_leave}
use Rattle.text_lexer.specs.Lines.{RawLine}
use Rattle.maps_read.specs.declared.maps.MapsLine.{MapsLine}
use Rattle.maps_read.specs.Fields.{read_maps_line}
use Rattle.maps_read.specs.Maps.{hi_or_zero, lines_end, is_in_order, after_maps_line}
use Rattle.maps_read.proofs.LineRead.{IsRead, after_line-Ok, at_line-Ok}

-- lines in order, which all end at or below the end of the last
pub record AreApart (lines : List MapsLine) : Type 0 where
  pub spans : All (λ line. line.lo < line.hi) lines
  pub apart : AllPairs (λ earlier later. earlier.hi ≤ later.lo) lines
  pub ends : All (λ line. line.hi ≤ lines_end lines) lines

end_of-push : (lines : List MapsLine) (line : MapsLine) → lines_end (lines ++ line ∷ []) ≡ line.hi
end_of-push lines line =
    let whole = lines ++ line ∷ [] in
    let size : length whole ≡ length lines + 1 = omega (arith, length-append lines (line ∷ [])) in
    ap hi_or_zero (slice_get-get_or whole (length whole - 1) line (omega arith))
    ∙ ap (λ (l : MapsLine). l.hi) (get_or_push lines line line (length whole - 1) (omega arith))

apart-push : (lines : List MapsLine) (line : MapsLine) → AreApart lines → line.lo < line.hi → lines_end lines ≤ line.lo → AreApart (lines ++ line ∷ [])
apart-push lines line apart span behind = record {
  spans = All-push (λ l. l.lo < l.hi) lines line apart.spans span;
  apart = all_pairs_push (λ earlier later. earlier.hi ≤ later.lo) lines line apart.apart (λ k d within. omega (arith, apart.ends k d within));
  ends = subst (λ (end : ℕ). All (λ l. l.hi ≤ end) (lines ++ line ∷ [])) (sym (end_of-push lines line))
      (All-push (λ l. l.hi ≤ line.hi) lines line
      (λ k d within. omega (arith, apart.ends k d within)) (omega arith));
}

order_is : (end : ℕ) (line : MapsLine) → is_in_order end line ≡ true → (line.lo < line.hi) × (end ≤ line.lo)
order_is end line e =
    let tests = and_parts (nat_lt line.lo line.hi) (nat_le end line.lo) e in
    (ltb-true line.lo line.hi tests.0, leb-true end line.lo tests.1)

apart_after : (before after : List MapsLine) (raw : RawLine) → AreApart before → IsRead before raw after → AreApart after
apart_after before after raw apart read =
    let order = order_is (lines_end before) read.line read.order in
    subst AreApart (sym read.behind) (apart-push before read.line apart order.0 order.1)

-- the lines that raw lines leave: those before, and one for each, in order
pub record Leaves (before : List MapsLine) (raws : List RawLine) (lines : List MapsLine) : Type 0 where
  pub more : List MapsLine
  pub whole : lines ≡ before ++ more
  pub read : AllZip (λ raw line. read_maps_line raw.text ≡ Ok line) raws more

pub leaves : (before lines : List MapsLine) (raws : List RawLine) → lines_leave after_maps_line before raws ≡ Ok lines → Leaves before raws lines
leaves before lines [] e = let same : lines ≡ before = cc in record { more = []; whole = same ∙ sym (append-nil before); read = tt }
leaves before lines (raw ∷ raws) e =
    let first = at_line-Ok raw.number (after_maps_line before raw) (λ next. lines_leave after_maps_line next raws) lines e in
    let read = after_line-Ok before first.0 raw first.1 in
    let rest = leaves first.0 lines raws first.2 in
    record {
      more = read.line ∷ rest.more;
      whole = rest.whole ∙ ap (λ (l : List MapsLine). l ++ rest.more) read.behind ∙ append_assoc before (read.line ∷ []) rest.more;
      read = (read.says, rest.read);
    }

pub leaves_apart : (before lines : List MapsLine) (raws : List RawLine) → AreApart before → lines_leave after_maps_line before raws ≡ Ok lines → AreApart lines
leaves_apart before lines [] apart e = let same : before ≡ lines = cc in subst AreApart same apart
leaves_apart before lines (raw ∷ raws) apart e =
    let first = at_line-Ok raw.number (after_maps_line before raw) (λ next. lines_leave after_maps_line next raws) lines e in
    leaves_apart first.0 lines raws (apart_after before first.0 raw apart (after_line-Ok before first.0 raw first.1)) first.2

-- no lines are in order
pub no_lines : AreApart []
no_lines = record { spans = λ k d within. absurd (omega arith); apart = λ i j d lt within. absurd (omega arith); ends = λ k d within. absurd (omega arith) }
