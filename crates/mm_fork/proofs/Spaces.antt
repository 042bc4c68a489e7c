-- Address spaces that go on from others.
use Rattle.std.proofs.Common.{ℕ, ◌≡◌, ◌∙◌, refl, sym, ap, subst, List, [], ◌∷◌, ◌++◌, map, take, slice_get, Some}
use Rattle.mm_types.specs.declared.call.Entry.{Entry}
use Rattle.mm_types.specs.declared.config.Config.{Config}
use Rattle.trace_reader.specs.declared.trace.TraceLine.{TraceLine}
use Rattle.area_rules.specs.Tables.{AddressSpace}
use Rattle.area_rules.specs.Steps.{step, opening, after}
use Rattle.history.specs.declared.items.Content.{Content}
use Rattle.history.specs.declared.items.Content.TheVariants as contents
use Rattle.history.specs.declared.items.Item.{Item}
use Rattle.history.specs.Histories.{journal_of, IsRight, IsLegalHistory}
use Rattle.mm_fork.specs.Children.{as_inherited, inherited, space_from, IsRightOver}

from_inherited : (config : Config) (space : AddressSpace) (entries : List Entry)
    → space_from config space (map as_inherited entries) ≡ space_from config space entries
from_inherited config space [] = refl
from_inherited config space (entry ∷ entries) = from_inherited config (step config space entry.call).space entries

-- callers make no difference to a space
pub inherited_space : (config : Config) (journal : List Entry) (version : ℕ) → after config (inherited journal version) ≡ after config (take version journal)
unfolding after
inherited_space config journal version = from_inherited config (opening config) (take version journal)

from_both : (config : Config) (space : AddressSpace) (xs ys : List Entry)
    → space_from config space (xs ++ ys) ≡ space_from config (space_from config space xs) ys
from_both config space [] ys = refl
from_both config space (x ∷ xs) ys = from_both config (step config space x.call).space xs ys

-- a space goes on from the one before
pub after_on : (config : Config) (before own : List Entry) → after config (before ++ own) ≡ space_from config (after config before) own
unfolding after
after_on config before own = from_both config (opening config) before own

right_over : (config : Config) (journal : List Entry) (content : Content) → IsRight config journal content
    → IsRightOver config (after config journal) content
right_over config journal (contents.Called call reply) right = right
right_over config journal (contents.Fault page access found) right = right
right_over config journal (contents.List areas) right = right

-- an item of a legal history is right over the space at its place, which goes on from where the history began
pub answers_own : (config : Config) (before : List Entry) (lines : List TraceLine) (items : List Item) (place : ℕ) (item : Item)
    → IsLegalHistory config before lines items → slice_get items place ≡ Some item
    → IsRightOver config (space_from config (after config before) (journal_of (take place items))) item.content
answers_own config before lines items place item legal found =
    let P : AddressSpace → Type 0 = λ space. IsRightOver config space item.content in
    subst P (after_on config before (journal_of (take place items)))
    (right_over config (before ++ journal_of (take place items)) item.content (legal.right place item found))
