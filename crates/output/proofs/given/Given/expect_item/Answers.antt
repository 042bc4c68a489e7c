-- The proof of `Given::expect_item`: the first line of an item is one line, and the lines of a list stand behind it.
use Rattle.std.proofs.Common.{ℕ, ◌≡◌, ◌++◌, List, [], refl, sym, subst, append-nil, Option}
use Rattle.mm_types.specs.MapsText.{list_text}
use Rattle.trace_reader.specs.Values.{child_of}
use Rattle.history.specs.declared.items.Content.{Content}
use Rattle.output.specs.Output.{item_start, result_text}
use Rattle.output.specs.Internal.Printed.{IsLine, first_text, more_text, content_of_answer}
use Rattle.output.specs.Internal.Judging.{HasRead, IsBadAt}
use Rattle.output.proofs.ItemLines.{first_line, start_plain}
use Rattle.output.proofs.Stopped.{item_printed, item_parts, two_parts, two_stop, stop_more, err_is, on_ok, if_err}
use Rattle.output.proofs.given.Given.expect_item.Goals as goal

pub expect-requires-clause-line : goal.expect-requires-clause-line
expect-requires-clause-line c =
    let child : Option ℕ = child_of c.args.asked.now.op in
    let content : Content = content_of_answer c.args.space.now.space.areas c.args.answer.now in
    let start : List ℕ = item_start c.args.asked.now c.args.version in
    let first : List ℕ = start ++ first_text child content in
    let is : c.as_slice.result.now ≡ first =
    item_printed c.as_slice.result.now _ _ _ start (first_text child content) c.as_slice.ensures.value
    (c.in_ok-push_first.ensures c.args.space.now.space.areas (sym c.area_count.ensures)) c.in_ok-push_start.ensures.ok c.clear.ensures.items in
    subst (λ (l : List ℕ). IsLine l) (sym is) (first_line start child content (start_plain c.args.asked.now c.args.version))

pub returns-in_err-expect-clause-bad : goal.returns-in_err-expect-clause-bad
returns-in_err-expect-clause-bad c = λ text before read.
    let child : Option ℕ = child_of c.args.asked.now.op in
    let content : Content = content_of_answer c.args.space.now.space.areas c.args.answer.now in
    let start : List ℕ = item_start c.args.asked.now c.args.version in
    let first : List ℕ = start ++ first_text child content in
    let is : c.as_slice.result.now ≡ first =
    item_printed c.as_slice.result.now _ _ _ start (first_text child content) c.as_slice.ensures.value
    (c.in_ok-push_first.ensures c.args.space.now.space.areas (sym c.area_count.ensures)) c.in_ok-push_start.ensures.ok c.clear.ensures.items in
    let more : List ℕ = more_text c.args.files.now child content in
    let whole : List ℕ = start ++ result_text c.args.files.now child content in
    let parts : whole ≡ first ++ more = item_parts c.args.files.now child content start more refl in
    err_is _ c.in_err-expect.field-0.0 (IsBadAt text (before ++ whole)) c.from_residual-in_err-expect.ensures.1
    (two_stop text before first more whole c.in_err-expect.field-0.0 parts (stop_more text (before ++ first) more c.in_err-expect.field-0.0
    (subst (λ (t : List ℕ). IsBadAt text (before ++ t) c.in_err-expect.field-0.0) is (c.in_err-expect.ensures.bad text before read))))

pub returns-then-shows_areas-clause-ok : goal.returns-then-shows_areas-clause-ok
returns-then-shows_areas-clause-ok c = λ text before read.
    let child : Option ℕ = child_of c.args.asked.now.op in
    let content : Content = content_of_answer c.args.space.now.space.areas c.args.answer.now in
    let start : List ℕ = item_start c.args.asked.now c.args.version in
    let first : List ℕ = start ++ first_text child content in
    let is : c.as_slice.result.now ≡ first =
    item_printed c.as_slice.result.now _ _ _ start (first_text child content) c.as_slice.ensures.value
    (c.in_ok-push_first.ensures c.args.space.now.space.areas (sym c.area_count.ensures)) c.in_ok-push_start.ensures.ok c.clear.ensures.items in
    let more : List ℕ = list_text c.args.files.now c.args.space.now.space.areas in
    let whole : List ℕ = start ++ result_text c.args.files.now child content in
    let parts : whole ≡ first ++ more =
    item_parts c.args.files.now child content start more
    (sym (c.if-shows_areas.ensures c.args.files.now c.args.space.now.space.areas)) in
    on_ok c.expect_listed.result _ _ (two_parts text before first more whole c.expect_listed.new.self parts)
    (c.expect_listed.ensures.ok text (before ++ first)
    (subst (λ (t : List ℕ). HasRead text (before ++ t) c.expect.new.self) is (c.in_ok-expect.ensures.ok text before read)))

pub returns-then-shows_areas-clause-bad : goal.returns-then-shows_areas-clause-bad
returns-then-shows_areas-clause-bad c = λ text before read.
    let child : Option ℕ = child_of c.args.asked.now.op in
    let content : Content = content_of_answer c.args.space.now.space.areas c.args.answer.now in
    let start : List ℕ = item_start c.args.asked.now c.args.version in
    let first : List ℕ = start ++ first_text child content in
    let is : c.as_slice.result.now ≡ first =
    item_printed c.as_slice.result.now _ _ _ start (first_text child content) c.as_slice.ensures.value
    (c.in_ok-push_first.ensures c.args.space.now.space.areas (sym c.area_count.ensures)) c.in_ok-push_start.ensures.ok c.clear.ensures.items in
    let more : List ℕ = list_text c.args.files.now c.args.space.now.space.areas in
    let whole : List ℕ = start ++ result_text c.args.files.now child content in
    let parts : whole ≡ first ++ more =
    item_parts c.args.files.now child content start more
    (sym (c.if-shows_areas.ensures c.args.files.now c.args.space.now.space.areas)) in
    if_err c.expect_listed.result (IsBadAt text ((before ++ first) ++ more)) (IsBadAt text (before ++ whole))
    (λ stop bad. two_stop text before first more whole stop parts bad)
    (c.expect_listed.ensures.bad text (before ++ first)
    (subst (λ (t : List ℕ). HasRead text (before ++ t) c.expect.new.self) is (c.in_ok-expect.ensures.ok text before read)))

pub returns-else-shows_areas-clause-ok : goal.returns-else-shows_areas-clause-ok
returns-else-shows_areas-clause-ok c = λ text before read.
    let child : Option ℕ = child_of c.args.asked.now.op in
    let content : Content = content_of_answer c.args.space.now.space.areas c.args.answer.now in
    let start : List ℕ = item_start c.args.asked.now c.args.version in
    let first : List ℕ = start ++ first_text child content in
    let is : c.as_slice.result.now ≡ first =
    item_printed c.as_slice.result.now _ _ _ start (first_text child content) c.as_slice.ensures.value
    (c.in_ok-push_first.ensures c.args.space.now.space.areas (sym c.area_count.ensures)) c.in_ok-push_start.ensures.ok c.clear.ensures.items in
    let whole : List ℕ = start ++ result_text c.args.files.now child content in
    let parts : whole ≡ first ++ [] =
    item_parts c.args.files.now child content start [] (sym (c.if-shows_areas.ensures c.args.files.now c.args.space.now.space.areas)) in
    two_parts text before first [] whole c.expect.new.self parts
    (subst (λ (t : List ℕ). HasRead text t c.expect.new.self) (sym (append-nil (before ++ first)))
    (subst (λ (t : List ℕ). HasRead text (before ++ t) c.expect.new.self) is (c.in_ok-expect.ensures.ok text before read)))
