-- Serves `printing.rt`, `turns.rt` and `giving.rt`: a text that fits into a piece is only appended to it.
use Rattle.std.proofs.Common.{ℕ, ◌≡◌, ◌+◌, ◌-◌, ◌%◌, ◌<◌, ◌≤◌, ◌∙◌, sym, ap, subst, List, [], ◌++◌, length, append_assoc, append-nil, length-append, Result, Ok, Err, arith}
use Rattle.output.specs.declared.error.PrintError.{PrintError}
use Rattle.output.specs.Giving.{FitsPiece, Pushes, IsPushing}

-- of two texts that fit the first does
fits_first : (room : ℕ) (held first second : List ℕ) → FitsPiece room held (first ++ second) → FitsPiece room held first
fits_first room held first second fits =
    let few = fits.few in
    let enough = fits.enough in
    record { few = omega (arith, few, length-append first second); enough = omega (arith, enough, length-append first second) }

-- and behind it the second
fits_second : (room after : ℕ) (held holds first second : List ℕ) → holds ≡ held ++ first → room ≤ after → FitsPiece room held (first ++ second)
    → FitsPiece after holds second
fits_second room after held holds first second adds grows fits =
    let few = fits.few in
    let enough = fits.enough in
    let long : length holds ≡ length held + length first = ap length adds ∙ length-append held first in
    record { few = omega (arith, few, long, length-append first second); enough = omega (arith, enough, grows, long, length-append first second) }

-- nothing was added
pub pushes_none : (room : ℕ) (held : List ℕ) → Pushes room room held held []
pushes_none room held = record { appended = λ fits. (sym (append-nil held), omega arith) }

-- a text was appended
pub pushes_text : (room after : ℕ) (held holds text : List ℕ) → holds ≡ held ++ text → room ≤ after → Pushes room after held holds text
pushes_text room after held holds text adds grows = record { appended = λ fits. (adds, grows) }

-- one text after the other
pub pushes_then : (room middle after : ℕ) (held mid holds first second : List ℕ) → Pushes room middle held mid first
    → Pushes middle after mid holds second → Pushes room after held holds (first ++ second)
pushes_then room middle after held mid holds first second one two = record {
  appended = λ fits.
      let added = one.appended (fits_first room held first second fits) in
      let more = two.appended (fits_second room middle held mid first second added.0 added.1 fits) in
      let grows = added.1 in
      let grows_more = more.1 in
      (more.0 ∙ ap (λ front. front ++ second) added.0 ∙ append_assoc held first second, omega (arith, grows, grows_more));
}

-- a text was appended, and then what is full given
pub pushes_pushed : (room middle after : ℕ) (held mid holds text : List ℕ) → mid ≡ held ++ text → room ≤ middle
    → Pushes middle after mid holds [] → Pushes room after held holds text
pushes_pushed room middle after held mid holds text adds grows given =
    subst (λ (t : List ℕ). Pushes room after held holds t) (append-nil text)
    (pushes_then room middle after held mid holds text [] (pushes_text room middle held mid text adds grows) given)

-- a text has another form
pub pushes_as : (room after : ℕ) (held holds text whole : List ℕ) → text ≡ whole → Pushes room after held holds text
    → Pushes room after held holds whole
pushes_as room after held holds text whole is pushes = subst (λ (t : List ℕ). Pushes room after held holds t) is pushes

-- a text for which there was no room does not fit
pub lacks_room : (room count : ℕ) (held text : List ℕ) → count ≡ length held → room < count + length text → ¬ FitsPiece room held text
lacks_room room count held text is_count lacks = λ fits. let enough = fits.enough in omega (arith, enough, is_count, lacks)

-- a text has another form
pub lacks_as : (room : ℕ) (held text whole : List ℕ) → text ≡ whole → ¬ FitsPiece room held text → ¬ FitsPiece room held whole
lacks_as room held text whole is lacks = subst (λ (t : List ℕ). ¬ FitsPiece room held t) is lacks

-- where the first does not fit, both do not
pub lacks_first : (room : ℕ) (held first second whole : List ℕ) → first ++ second ≡ whole → ¬ FitsPiece room held first → ¬ FitsPiece room held whole
lacks_first room held first second whole all lacks =
    λ fits. lacks (fits_first room held first second (subst (λ (t : List ℕ). FitsPiece room held t) (sym all) fits))

-- where the second does not fit behind the first, both do not
pub lacks_second : (room middle : ℕ) (held mid first second : List ℕ) → Pushes room middle held mid first → ¬ FitsPiece middle mid second
    → ¬ FitsPiece room held (first ++ second)
lacks_second room middle held mid first second one lacks =
    λ fits. let added = one.appended (fits_first room held first second fits) in
    lacks (fits_second room middle held mid first second added.0 added.1 fits)

-- a line between others does not fit
pub lacks_at : (room middle : ℕ) (held mid text line rest whole : List ℕ) → Pushes room middle held mid text → (text ++ line) ++ rest ≡ whole
    → ¬ FitsPiece middle mid line → ¬ FitsPiece room held whole
lacks_at room middle held mid text line rest whole first all lacks =
    lacks_first room held (text ++ line) rest whole all (lacks_second room middle held mid text line first lacks)

-- a text was appended, and then something was to be given
pub lacks_pushed : (room middle : ℕ) (held mid text : List ℕ) → mid ≡ held ++ text → room ≤ middle → ¬ FitsPiece middle mid [] → ¬ FitsPiece room held text
lacks_pushed room middle held mid text adds grows lacks =
    λ fits. lacks (fits_second room middle held mid text [] adds grows (subst (λ (t : List ℕ). FitsPiece room held t) (sym (append-nil text)) fits))

-- where whole pieces are held, nothing fits
pub lacks_full : (room first second : ℕ) (held : List ℕ) → first ≡ length held → second ≡ length held → 0 < first - second % 65536
    → ¬ FitsPiece room held []
lacks_full room first second held one two full = λ fits. let few = fits.few in omega (arith, few, one, two, full)

-- what does not fit is appended in any case
pub pushes_absurd : (room after : ℕ) (held holds text : List ℕ) → ¬ FitsPiece room held text → Pushes room after held holds text
pushes_absurd room after held holds text lacks = record { appended = λ fits. absurd (lacks fits) }

-- one text was appended, and then what printing another results in
pub pushing_then : {T : Type 0} (room middle after : ℕ) (held mid holds first second : List ℕ) (result : Result T PrintError)
    → Pushes room middle held mid first → IsPushing middle after mid holds second result → IsPushing room after held holds (first ++ second) result
pushing_then room middle after held mid holds first second (Ok done) one two = pushes_then room middle after held mid holds first second one two
pushing_then room middle after held mid holds first second (Err error) one two = lacks_second room middle held mid first second one two

-- a text was appended, and then what giving what is full results in
pub pushing_pushed : {T : Type 0} (room middle after : ℕ) (held mid holds text : List ℕ) (result : Result T PrintError) → mid ≡ held ++ text
    → room ≤ middle → IsPushing middle after mid holds [] result → IsPushing room after held holds text result
pushing_pushed room middle after held mid holds text (Ok done) adds grows given = pushes_pushed room middle after held mid holds text adds grows given
pushing_pushed room middle after held mid holds text (Err error) adds grows lacks = lacks_pushed room middle held mid text adds grows lacks

-- a text has another form
pub pushing_as : {T : Type 0} (room after : ℕ) (held holds text whole : List ℕ) (result : Result T PrintError) → text ≡ whole
    → IsPushing room after held holds text result → IsPushing room after held holds whole result
pushing_as room after held holds text whole result is pushing = subst (λ (t : List ℕ). IsPushing room after held holds t result) is pushing
