-- An item is printed as a first line, and a line for each area of its list.
use Rattle.std.proofs.Common.{ℕ, ◌≡◌, ◌∙◌, refl, sym, ap, subst, List, [], ◌++◌, append_assoc, append-nil, length, codes, decimal, Option, Some, None}
use Rattle.mm_types.specs.declared.area.Record.{Record}
use Rattle.mm_types.specs.declared.area.Verdict.{Verdict}
use Rattle.mm_types.specs.declared.area.Verdict.TheVariants as verdicts
use Rattle.mm_types.specs.declared.call.Errno.{Errno}
use Rattle.mm_types.specs.declared.call.Errno.TheVariants as errnos
use Rattle.mm_types.specs.declared.call.Reply.{Reply}
use Rattle.mm_types.specs.declared.call.Reply.TheVariants as replies
use Rattle.mm_types.specs.declared.files.FileRow.{FileRow}
use Rattle.mm_types.specs.MapsText.{list_text}
use Rattle.trace_reader.specs.declared.trace.TraceLine.{TraceLine}
use Rattle.history.specs.declared.items.Content.{Content}
use Rattle.history.specs.declared.items.Content.TheVariants as contents
use Rattle.output.specs.Output.{errno_name, served_text, reply_text, verdict_text, maps_text, content_text, item_start, forked_text, result_text}
use Rattle.output.specs.Internal.Printed.{IsOfOneLine, IsLine, first_text, more_text}
use Rattle.output.proofs.Plain.{both, written, line_of, digits_plain, range_plain}

served_plain : (area : Record) (index : ℕ) → IsOfOneLine (served_text area index)
unfolding served_text
served_plain area index =
    both (written (codes "served ") refl) (both (range_plain area) (both (written (codes " page ") refl) (digits_plain 10 index)))

errno_plain : (errno : Errno) → IsOfOneLine (errno_name errno)
unfolding errno_name
errno_plain errnos.Eperm = written (codes "EPERM") refl
errno_plain errnos.Ebadf = written (codes "EBADF") refl
errno_plain errnos.Enomem = written (codes "ENOMEM") refl
errno_plain errnos.Eacces = written (codes "EACCES") refl
errno_plain errnos.Efault = written (codes "EFAULT") refl
errno_plain errnos.Eexist = written (codes "EEXIST") refl
errno_plain errnos.Einval = written (codes "EINVAL") refl
errno_plain errnos.Eoverflow = written (codes "EOVERFLOW") refl

reply_plain : (reply : Reply) → IsOfOneLine (reply_text reply)
unfolding reply_text
reply_plain (replies.Addr address) = both (written (codes "0x") refl) (digits_plain 16 address)
reply_plain replies.Zero = written (codes "0") refl
reply_plain (replies.Refused errno) = both (written (codes "-1 ") refl) (errno_plain errno)
reply_plain (replies.Grown area index) = served_plain area index

verdict_plain : (verdict : Verdict) → IsOfOneLine (verdict_text verdict)
unfolding verdict_text
verdict_plain (verdicts.Served area index) = served_plain area index
verdict_plain verdicts.MapErr = written (codes "SIGSEGV SEGV_MAPERR") refl
verdict_plain verdicts.AccErr = written (codes "SIGSEGV SEGV_ACCERR") refl
verdict_plain verdicts.BusErr = written (codes "SIGBUS BUS_ADRERR") refl

-- what stands before what a line results in has no newline
pub start_plain : (line : TraceLine) (version : ℕ) → IsOfOneLine (item_start line version)
unfolding item_start
start_plain line version =
    both (written (codes "L") refl) (both (digits_plain 10 line.number) (both (written (codes " t") refl) (both (digits_plain 10 line.thread)
    (both (written (codes " v") refl) (both (digits_plain 10 version) (written (codes " = ") refl))))))

line_behind : {start text : List ℕ} → IsOfOneLine start → IsOfOneLine text → IsLine (start ++ (text ++ codes "\n"))
line_behind {start} {text} plain more = record { body = start ++ text; plain = both plain more; is = sym (append_assoc start text (codes "\n")) }

count_parts : (count : ℕ) → (codes "maps " ++ decimal count) ++ codes "\n" ≡ codes "maps " ++ (decimal count ++ codes "\n")
count_parts count = append_assoc (codes "maps ") (decimal count) (codes "\n")

count_plain : (count : ℕ) → IsOfOneLine (codes "maps " ++ decimal count)
count_plain count = both (written (codes "maps ") refl) (digits_plain 10 count)

-- how many areas there are is one line
pub count_line : (count : ℕ) → IsLine (codes "maps " ++ (decimal count ++ codes "\n"))
count_line count = subst (λ (l : List ℕ). IsLine l) (count_parts count) (line_of (count_plain count))

forked_plain : (child count : ℕ) → IsOfOneLine (codes "child " ++ (decimal child ++ (codes " areas " ++ decimal count)))
forked_plain child count =
    both (written (codes "child ") refl) (both (digits_plain 10 child) (both (written (codes " areas ") refl) (digits_plain 10 count)))

forked_parts : (child : ℕ) (areas : List Record)
    → (codes "child " ++ (decimal child ++ (codes " areas " ++ decimal (length areas)))) ++ codes "\n" ≡ forked_text child areas
unfolding forked_text
forked_parts child areas =
    append_assoc (codes "child ") (decimal child ++ (codes " areas " ++ decimal (length areas))) (codes "\n")
    ∙ ap (λ (t : List ℕ). codes "child " ++ t) (append_assoc (decimal child) (codes " areas " ++ decimal (length areas)) (codes "\n")
    ∙ ap (λ (t : List ℕ). decimal child ++ t) (append_assoc (codes " areas ") (decimal (length areas)) (codes "\n")))

-- what stands first, with its start, is one line
pub first_line : (start : List ℕ) (child : Option ℕ) (content : Content) → IsOfOneLine start → IsLine (start ++ first_text child content)
first_line start child (contents.Called call reply) plain = line_behind plain (reply_plain reply)
first_line start child (contents.Fault page access verdict) plain = line_behind plain (verdict_plain verdict)
first_line start None (contents.List areas) plain =
    subst (λ (t : List ℕ). IsLine (start ++ t)) (count_parts (length areas)) (line_behind plain (count_plain (length areas)))
first_line start (Some child) (contents.List areas) plain =
    subst (λ (t : List ℕ). IsLine (start ++ t)) (forked_parts child areas) (line_behind plain (forked_plain child (length areas)))

-- behind the count stand the lines of the areas
pub maps_is : (files : List FileRow) (areas : List Record)
    → maps_text files areas ≡ (codes "maps " ++ (decimal (length areas) ++ codes "\n")) ++ list_text files areas
unfolding maps_text
maps_is files areas =
    sym (append_assoc (codes "maps ") (decimal (length areas) ++ codes "\n") (list_text files areas)
    ∙ ap (λ (t : List ℕ). codes "maps " ++ t) (append_assoc (decimal (length areas)) (codes "\n") (list_text files areas)))

-- the printed count of areas
pub count_printed : (printed old new : List ℕ) (count many : ℕ) → printed ≡ new → new ≡ old ++ (codes "maps " ++ (decimal count ++ codes "\n"))
    → old ≡ [] → count ≡ many → printed ≡ codes "maps " ++ (decimal many ++ codes "\n")
count_printed printed old new count many is adds none are =
    is ∙ adds ∙ ap (λ (l : List ℕ). l ++ (codes "maps " ++ (decimal count ++ codes "\n"))) none
    ∙ ap (λ (n : ℕ). codes "maps " ++ (decimal n ++ codes "\n")) are

-- what an item results in is what stands first, and its other lines
pub result_is : (files : List FileRow) (child : Option ℕ) (content : Content)
    → result_text files child content ≡ first_text child content ++ more_text files child content
unfolding content_text
result_is files None (contents.Called call reply) = sym (append-nil (reply_text reply ++ codes "\n"))
result_is files (Some child) (contents.Called call reply) = sym (append-nil (reply_text reply ++ codes "\n"))
result_is files None (contents.Fault page access verdict) = sym (append-nil (verdict_text verdict ++ codes "\n"))
result_is files (Some child) (contents.Fault page access verdict) = sym (append-nil (verdict_text verdict ++ codes "\n"))
result_is files None (contents.List areas) = maps_is files areas
result_is files (Some child) (contents.List areas) = sym (append-nil (forked_text child areas))
