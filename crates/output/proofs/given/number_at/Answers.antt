-- The proof of `number_at`: what an item begins with leads to its number, which is told where one is read.
use Rattle.std.proofs.Common.{◌≡◌, ◌∙◌, sym, [], ◌∷◌, position, Some, None, rules, tests}
use Rattle.std.proofs.lemmas.Bool.Decides.{Decides-eqb}
use Rattle.std.proofs.lemmas.Iterator.{YieldsList-from_slice}
use Rattle.std.proofs.lemmas.Iterator.Search.{position_from_yields_List}
use Rattle.std.proofs.lemmas.Slice.Eq.{strip_prefix_is}
use Rattle.output.proofs.ReadNumbers.{number_between, rest_between, is_space, no_end, end_is, word_is, told_at}
use Rattle.output.proofs.given.number_at.Goals as goal

pub returns-in_err-digits-clause-printed : goal.returns-in_err-digits-clause-printed
returns-in_err-digits-clause-printed c = λ line version rest fits is.
    let between = number_between line version rest c.args.text.now is in
    absurd (strip_prefix_is Decides-eqb c.args.text.now (76 ∷ []) None c.in_err-digits.ensures.cases _ between.1)

pub returns-in_err-end-clause-printed : goal.returns-in_err-end-clause-printed
returns-in_err-end-clause-printed c = λ line version rest fits is.
    let between = number_between line version rest c.args.text.now is in
    let split : c.args.text.now ≡ 76 ∷ c.in_ok-digits.digits.now =
    strip_prefix_is Decides-eqb c.args.text.now (76 ∷ []) (Some c.in_ok-digits.digits) c.in_ok-digits.ensures.cases in
    let digits = rest_between line.number between.0 c.in_ok-digits.digits.now c.args.text.now between.1 split in
    let found : c.position.result ≡ position is_space c.in_ok-digits.digits.now =
    position_from_yields_List is_space _ _ c.position.result c.position.ensures.ran
    (YieldsList-from_slice c.in_ok-digits.digits.now cc) (λ x b q k. search (rules, tests)) in
    absurd (no_end line.number between.0 c.in_ok-digits.digits.now c.position.result digits found c.in_err-end.was)

pub returns-clause-printed : goal.returns-clause-printed
returns-clause-printed c = λ line version rest fits is.
    let between = number_between line version rest c.args.text.now is in
    let split : c.args.text.now ≡ 76 ∷ c.in_ok-digits.digits.now =
    strip_prefix_is Decides-eqb c.args.text.now (76 ∷ []) (Some c.in_ok-digits.digits) c.in_ok-digits.ensures.cases in
    let digits = rest_between line.number between.0 c.in_ok-digits.digits.now c.args.text.now between.1 split in
    let found : c.position.result ≡ position is_space c.in_ok-digits.digits.now =
    position_from_yields_List is_space _ _ c.position.result c.position.ensures.ran
    (YieldsList-from_slice c.in_ok-digits.digits.now cc) (λ x b q k. search (rules, tests)) in
    let end = end_is line.number between.0 c.in_ok-digits.digits.now c.position.result c.in_ok-end.end digits found c.in_ok-end.was in
    c.decimal_of_bytes.ensures.printed line.number fits
    (word_is line.number between.0 c.in_ok-digits.digits.now c.split_at.result.0.now c.in_ok-end.end digits end c.split_at.ensures.front)

pub returns-clause-told : goal.returns-clause-told
returns-clause-told c =
    let split : c.args.text.now ≡ 76 ∷ c.in_ok-digits.digits.now =
    strip_prefix_is Decides-eqb c.args.text.now (76 ∷ []) (Some c.in_ok-digits.digits) c.in_ok-digits.ensures.cases in
    let found : c.position.result ≡ position is_space c.in_ok-digits.digits.now =
    position_from_yields_List is_space _ _ c.position.result c.position.ensures.ran
    (YieldsList-from_slice c.in_ok-digits.digits.now cc) (λ x b q k. search (rules, tests)) in
    told_at c.args.text.now c.in_ok-digits.digits.now c.split_at.result.0.now c.in_ok-end.end c.decimal_of_bytes.result split
    (sym found ∙ c.in_ok-end.was) c.split_at.ensures.front c.decimal_of_bytes.ensures.told
