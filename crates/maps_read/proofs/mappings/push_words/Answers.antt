-- For `push_words`: the front of the line, and then what it maps.
use Rattle.std.proofs.Common.{Ok, refl, string_bytes}
use Rattle.maps_read.specs.Mappings.{backing_text, mapping_text}
use Rattle.maps_read.proofs.MappingTexts.{front, whole_text}
use Rattle.maps_read.proofs.Texts.{wrote, wrote_both}
use Rattle.maps_read.proofs.mappings.push_words.Goals as goal

pub returns : goal.returns
returns c = wrote_both c.push_backing.result _ (string_bytes c.write.new.self) _ (front c.args.area.now) (backing_text c.args.area.now) (mapping_text c.args.area.now)
    (wrote (Ok tt) _ (string_bytes c.write.new.self) (front c.args.area.now) _ c.in_ok-write.ensures.bytes
    (rw (c.in_radix.ensures, c.requires.prot, c.requires.flags) refl))
    c.push_backing.ensures (whole_text c.args.area.now c.requires.area.above)
