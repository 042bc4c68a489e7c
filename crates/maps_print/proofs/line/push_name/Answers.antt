-- A name that has bytes is set off by spaces; where memory runs out, a beginning of both has been appended.
use Rattle.std.proofs.Common.{◌++◌, List, ℕ, flat_map, replicate, sym, ap, ◌∙◌, subst, arith, append_assoc}
use Rattle.std.proofs.lemmas.Grind.{common_steps}
use Rattle.std.proofs.lemmas.Result.{on_ok_weaker, on_err_weaker}
use Rattle.std.specs.Str.{byte}
use Rattle.mm_types.specs.MapsText.{shown_byte, spaces_before}
use Rattle.maps_print.specs.Appends.{AppendsFront}
use Rattle.maps_print.proofs.Beginnings.{front_of_second}
use Rattle.maps_print.proofs.Names.{named, spaced}
use Rattle.maps_print.proofs.line.push_name.Goals as goal

pub returns-clause-ok : goal.returns-clause-ok
returns-clause-ok c =
    let old = c.args.text.now.items in
    let is_named = named c.args.column c.args.name.now (grind (arith, common_steps)) in
    let is_spaced = spaced old c.extend_from_slice.new.self.items c.args.column c.spaces_before.result
    c.spaces_before.ensures.spaces c.spaces_before.ensures.few c.in_ok-extend_from_slice.ensures.items in
    on_ok_weaker c.push_shown.result (λ pushed. pushed ∙ ap (λ text. text ++ flat_map shown_byte c.args.name.now) is_spaced
    ∙ append_assoc old (replicate (spaces_before c.args.column) (byte " ")) (flat_map shown_byte c.args.name.now)
    ∙ ap (λ text. old ++ text) (sym is_named)) c.push_shown.ensures.ok

pub returns-clause-no_memory : goal.returns-clause-no_memory
returns-clause-no_memory c =
    let old = c.args.text.now.items in
    let is_named = named c.args.column c.args.name.now (grind (arith, common_steps)) in
    let is_spaced = spaced old c.extend_from_slice.new.self.items c.args.column c.spaces_before.result
    c.spaces_before.ensures.spaces c.spaces_before.ensures.few c.in_ok-extend_from_slice.ensures.items in
    on_err_weaker c.push_shown.result (λ stopped. subst (λ (text : List ℕ). AppendsFront old c.push_shown.new.text.items text) (sym is_named)
    (front_of_second old c.extend_from_slice.new.self.items c.push_shown.new.text.items _ _ is_spaced stopped)) c.push_shown.ensures.no_memory
