-- The proof of `push_line`: what each kind of line appends.
use Rattle.std.proofs.Common.{◌≡◌, ◌++◌, ◌∙◌, sym, false, codes, decimal, arith}
use Rattle.std.proofs.lemmas.Grind.{common_steps}
use Rattle.std.specs.Fmt.{digits}
use Rattle.trace_reader.specs.LineTexts.{line_text}
use Rattle.gen_load.specs.declared.draw.Kind.TheVariants.{MapExactly, MapNear, MapAnywhere, Unmap, Protect, Move}
use Rattle.gen_load.specs.declared.draw.Kind.TheVariants as kinds
use Rattle.gen_load.specs.Loads.{kind_of, drawn_line}
use Rattle.gen_load.proofs.KindTexts.{exactly_text, near_text, anywhere_text, unmap_text, protect_text, move_text, read_text, write_text}
use Rattle.gen_load.proofs.Written.{three_parts}
use Rattle.gen_load.proofs.loading.push_line.Goals as goal

pub returns-in_ok-push_address-in-MapExactly : goal.returns-in_ok-push_address-in-MapExactly
returns-in_ok-push_address-in-MapExactly c =
    let kind : kind_of c.args.draw.0 ≡ MapExactly = sym c.kind.ensures ∙ c.in-MapExactly.is in
    let text : line_text (drawn_line 0 c.args.draw.0) ≡ decimal c.thread.result ++ ((codes " mmap 0x" ++ digits 16 false c.address-address.result)
    ++ (codes " " ++ (decimal c.length-length.result ++ (codes " " ++ (c.prot.result.now ++ codes " MAP_PRIVATE|MAP_FIXED|MAP_ANONYMOUS -1 0\n"))))) =
    rw (c.thread.ensures, c.address-address.ensures, c.length-length.ensures, c.prot.ensures) (exactly_text c.args.draw.0 kind) in
    three_parts c.push_prot.result _ _ _ _ _ _ _ _ c.in_ok-push_decimal.ensures.ok c.in_ok-push_address-in-MapExactly.ensures c.push_prot.ensures text

pub returns-in_ok-push_address-in-MapNear : goal.returns-in_ok-push_address-in-MapNear
returns-in_ok-push_address-in-MapNear c =
    let kind : kind_of c.args.draw.0 ≡ MapNear = sym c.kind.ensures ∙ c.in-MapNear.is in
    let text : line_text (drawn_line 0 c.args.draw.0) ≡ decimal c.thread.result ++ ((codes " mmap 0x" ++ digits 16 false c.address-address.result)
    ++ (codes " " ++ (decimal c.length-length.result ++ (codes " " ++ (c.prot-in-MapNear.result.now ++ codes " MAP_PRIVATE|MAP_ANONYMOUS -1 0\n"))))) =
    rw (c.thread.ensures, c.address-address.ensures, c.length-length.ensures, c.prot-in-MapNear.ensures) (near_text c.args.draw.0 kind) in
    three_parts c.push_prot-in-MapNear.result _ _ _ _ _ _ _ _ c.in_ok-push_decimal.ensures.ok c.in_ok-push_address-in-MapNear.ensures c.push_prot-in-MapNear.ensures text

pub returns-in_ok-extend_from_slice-in-MapAnywhere : goal.returns-in_ok-extend_from_slice-in-MapAnywhere
returns-in_ok-extend_from_slice-in-MapAnywhere c =
    let kind : kind_of c.args.draw.0 ≡ MapAnywhere = sym c.kind.ensures ∙ c.in-MapAnywhere.is in
    let text : line_text (drawn_line 0 c.args.draw.0) ≡ decimal c.thread.result ++ (codes " mmap 0"
    ++ (codes " " ++ (decimal c.length-length.result ++ (codes " " ++ (c.prot-in-MapAnywhere.result.now ++ codes " MAP_PRIVATE|MAP_ANONYMOUS -1 0\n"))))) =
    rw (c.thread.ensures, c.length-length.ensures, c.prot-in-MapAnywhere.ensures) (anywhere_text c.args.draw.0 kind) in
    three_parts c.push_prot-in-MapAnywhere.result _ _ _ _ _ _ _ _ c.in_ok-push_decimal.ensures.ok c.in_ok-extend_from_slice-in-MapAnywhere.ensures.items c.push_prot-in-MapAnywhere.ensures text

pub returns-in_ok-push_address-in-Protect : goal.returns-in_ok-push_address-in-Protect
returns-in_ok-push_address-in-Protect c =
    let kind : kind_of c.args.draw.0 ≡ Protect = sym c.kind.ensures ∙ c.in-Protect.is in
    let text : line_text (drawn_line 0 c.args.draw.0) ≡ decimal c.thread.result ++ ((codes " mprotect 0x" ++ digits 16 false c.address-address.result)
    ++ (codes " " ++ (decimal c.length-length.result ++ (codes " " ++ (c.prot-in-Protect.result.now ++ codes "\n"))))) =
    rw (c.thread.ensures, c.address-address.ensures, c.length-length.ensures, c.prot-in-Protect.ensures) (protect_text c.args.draw.0 kind) in
    three_parts c.push_prot-in-Protect.result _ _ _ _ _ _ _ _ c.in_ok-push_decimal.ensures.ok c.in_ok-push_address-in-Protect.ensures c.push_prot-in-Protect.ensures text

pub returns-in_ok-push-in-Unmap : goal.returns-in_ok-push-in-Unmap
returns-in_ok-push-in-Unmap c = let kind : kind_of c.args.draw.0 ≡ Unmap = sym c.kind.ensures ∙ c.in-Unmap.is in
    rw (unmap_text c.args.draw.0 kind, ← c.thread.ensures, ← c.address-address.ensures, ← c.length-length.ensures) (grind (arith, common_steps))

pub returns-in_ok-push_address-in-Move : goal.returns-in_ok-push_address-in-Move
returns-in_ok-push_address-in-Move c =
    let kind : kind_of c.args.draw.0 ≡ Move = sym c.kind.ensures ∙ c.in-Move.is in
    let text : line_text (drawn_line 0 c.args.draw.0) ≡ decimal c.thread.result ++ ((codes " mremap 0x" ++ digits 16 false c.address-address.result)
    ++ (codes " " ++ (decimal c.length-length.result ++ (codes " " ++ (decimal c.new_length.result ++ codes " MREMAP_MAYMOVE\n"))))) =
    rw (c.thread.ensures, c.address-address.ensures, c.length-length.ensures, c.new_length.ensures) (move_text c.args.draw.0 kind) in
    three_parts c.push_lengths.result _ _ _ _ _ _ _ _ c.in_ok-push_decimal.ensures.ok c.in_ok-push_address-in-Move.ensures c.push_lengths.ensures text

pub returns-in-Read : goal.returns-in-Read
returns-in-Read c = let kind : kind_of c.args.draw.0 ≡ kinds.Read = sym c.kind.ensures ∙ c.in-Read.is in
    rw (read_text c.args.draw.0 kind, ← c.thread.ensures, ← c.address-address.ensures) (grind (arith, common_steps))

pub returns-in-Write : goal.returns-in-Write
returns-in-Write c = let kind : kind_of c.args.draw.0 ≡ kinds.Write = sym c.kind.ensures ∙ c.in-Write.is in
    rw (write_text c.args.draw.0 kind, ← c.thread.ensures, ← c.address-address.ensures) (grind (arith, common_steps))
