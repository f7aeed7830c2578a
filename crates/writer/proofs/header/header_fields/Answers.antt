use Rattle.writer.proofs.Headers.{fields_made}
use Rattle.writer.proofs.header.header_fields.Goals as goal

pub returns : goal.returns
returns c =
    fields_made c.args.shape c.requires
    _ _ _ _ c.count_in-count0.ensures.is c.count_in-count1.ensures.is c.count_in-count2.ensures.is c.count_in-count3.ensures.is
    _ _ _ _ _ c.held-held.ensures.values c.offset_in-offset0.ensures c.offset_in-offset1.ensures c.offset_in-offset2.ensures c.offset_in-offset3.ensures
