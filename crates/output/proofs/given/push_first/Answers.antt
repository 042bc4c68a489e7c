-- The proof of `push_first`: the child that a line forks.
use Rattle.std.proofs.Common.{ℕ, ◌≡◌, ◌∙◌, sym, ap, subst, List, ◌++◌, length, codes, decimal, OnOk}
use Rattle.mm_types.specs.declared.area.Record.{Record}
use Rattle.trace_reader.specs.declared.trace.Op.{Op}
use Rattle.trace_reader.specs.declared.trace.Op.TheVariants as ops
use Rattle.trace_reader.specs.Values.{child_of}
use Rattle.output.specs.Output.{forked_text}
use Rattle.output.specs.declared.answers.Answer.{Answer}
use Rattle.output.specs.declared.answers.Answer.TheVariants as answers
use Rattle.output.specs.Internal.Printed.{first_text, content_of_answer}
use Rattle.output.proofs.given.push_first.Goals as goal

forked_is : (op : Op) (answer : Answer) (child count : ℕ) (areas : List Record) → op ≡ ops.Fork child → answer ≡ answers.List → length areas ≡ count
    → codes "child " ++ (decimal child ++ (codes " areas " ++ (decimal count ++ codes "\n"))) ≡ first_text (child_of op) (content_of_answer areas answer)
unfolding forked_text
forked_is op answer child count areas forks is many =
    ap (λ (n : ℕ). codes "child " ++ (decimal child ++ (codes " areas " ++ (decimal n ++ codes "\n")))) (sym many)
    ∙ ap (λ (o : Op). first_text (child_of o) (content_of_answer areas answers.List)) (sym forks)
    ∙ ap (λ (a : Answer). first_text (child_of op) (content_of_answer areas a)) (sym is)

pub returns-in-Fork-List : goal.returns-in-Fork-List
returns-in-Fork-List c = λ areas many.
    subst (λ (t : List ℕ). OnOk c.push_forked.result (c.push_forked.new.text.items ≡ c.args.text.now.items ++ t))
    (forked_is c.args.op c.args.answer.now c.in-Fork-List.child c.args.count areas c.in-Fork-List.is-0 c.in-Fork-List.is-1 many) c.push_forked.ensures.ok
