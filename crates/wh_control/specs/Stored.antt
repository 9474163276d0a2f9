-- Frames can be stored, as their four numbers.
use Rattle.std.specs.Prelude.{List}
use Rattle.std.specs.Coded.{Coded, coded_list}
use Rattle.wh_control.specs.declared.frame.CallFrame.{CallFrame}
use Rattle.wh_control.specs.contracts.frame.CallFrame as frame_type

abbrev pub stored_frames : Coded (List CallFrame)
stored_frames = coded_list frame_type.the_row.coded
