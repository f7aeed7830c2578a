use Rattle.answer.proofs.Checks.{passes}
use Rattle.writer.proofs.Writes.{written_room_lem, written_frame, left_as_it_was, left_written}
use Rattle.writer.proofs.write.Goals as goal

pub returns-in-Err : goal.returns-in-Err
returns-in-Err c = left_as_it_was _ _ _ _ _ c.in-Err.ensures _ c.from.ensures

pub put_image-requires : goal.put_image-requires
put_image-requires c = written_room_lem _ _ _ _ (passes _ _ c.in_default.ensures)

pub image_length-requires : goal.image_length-requires
image_length-requires c = (written_frame _ _ _ _ (passes _ _ c.in_default.ensures)).judged

pub returns : goal.returns
returns c = left_written _ _ _ _ _ c.in_default.ensures _ c.put_image.ensures _ _ c.pass.ensures c.image_length.ensures
