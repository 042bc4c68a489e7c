-- What contracts see of a note.
use Rattle.std.specs.Prelude.{◌≡◌, List}
use Rattle.mm_types.specs.declared.call.Entry.{Entry}
use Rattle.mm_types.specs.declared.config.Config.{Config}
use Rattle.atomic_table.specs.Seated.{TableId}
use Rattle.fault_path.specs.Passes.{PassView, pass_config, seen_by}

-- a note: of which table it is, its configuration, and the journal as its teller had seen it
pub record NoteView : Type 0 where
  pub table : TableId
  pub config : Config
  pub seen : List Entry

-- a pass wrote the note
pub record WroteNote (pass : PassView) (note : NoteView) : Type 0 where
  pub table : note.table ≡ pass.reader.seat.table_id
  pub settings : note.config ≡ pass_config pass
  pub seen_is : note.seen ≡ seen_by pass
