-- What moves an entry.
use Rattle.std.specs.Prelude.{List}
use Rattle.assise_record.specs.declared.effect.Effect.{Effect}
use Rattle.assise_inode_table.specs.Calls.{move_effects}
use Rattle.assise_inode_plan.specs.declared.renaming.Move.{Move}

abbrev pub effects_of_move : Move → List Effect
effects_of_move m = move_effects m.from.directory m.name.now m.directory m.new_name.now m.from.inode
