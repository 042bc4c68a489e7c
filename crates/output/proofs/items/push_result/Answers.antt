-- The proof of `push_result`: the list that a child begins with.
use Rattle.std.proofs.Common.{ℕ, ◌≡◌, ◌+◌, ◌<◌, ◌∙◌, sym, ap, subst, List, ◌++◌, length, codes, decimal, OnErr, OnOk, vec_capacity, vec_len}
use Rattle.mm_types.specs.declared.area.Record.{Record}
use Rattle.mm_types.specs.declared.files.FileRow.{FileRow}
use Rattle.trace_reader.specs.declared.trace.Op.{Op}
use Rattle.trace_reader.specs.declared.trace.Op.TheVariants as ops
use Rattle.trace_reader.specs.Values.{child_of}
use Rattle.history.specs.declared.items.Content.{Content}
use Rattle.history.specs.declared.items.Content.TheVariants as contents
use Rattle.output.specs.Output.{forked_text, result_text}
use Rattle.output.proofs.items.push_result.Goals as goal

-- the text of a list that a child begins with
forked_is : (files : List FileRow) (op : Op) (content : Content) (child : ℕ) (areas shown : List Record) → op ≡ ops.Fork child
    → content ≡ contents.List areas → shown ≡ areas
    → codes "child " ++ (decimal child ++ (codes " areas " ++ (decimal (length shown) ++ codes "\n"))) ≡ result_text files (child_of op) content
unfolding forked_text
forked_is files op content child areas shown forks is same =
    ap (λ (l : List Record). codes "child " ++ (decimal child ++ (codes " areas " ++ (decimal (length l) ++ codes "\n")))) same
    ∙ ap (λ (o : Op). result_text files (child_of o) (contents.List areas)) (sym forks)
    ∙ ap (result_text files (child_of op)) (sym is)

pub returns-in-Fork-List-clause-ok : goal.returns-in-Fork-List-clause-ok
returns-in-Fork-List-clause-ok c =
    subst (λ (t : List ℕ). OnOk c.push_forked.result (c.push_forked.new.text.items ≡ c.args.text.now.items ++ t))
    (forked_is c.args.files.now c.args.op c.args.content.now c.in-Fork-List.child _ c.items.result.now c.in-Fork-List.is-0 c.in-Fork-List.is-1 c.items.ensures)
    c.push_forked.ensures.ok

pub returns-in-Fork-List-clause-room : goal.returns-in-Fork-List-clause-room
returns-in-Fork-List-clause-room c =
    subst (λ (t : List ℕ). OnErr c.push_forked.result (vec_capacity c.args.text.now < vec_len c.args.text.now + length t))
    (forked_is c.args.files.now c.args.op c.args.content.now c.in-Fork-List.child _ c.items.result.now c.in-Fork-List.is-0 c.in-Fork-List.is-1 c.items.ensures)
    c.push_forked.ensures.room
