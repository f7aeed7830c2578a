use Rattle.std.proofs.Common.{◌∙◌, sym, length-take-le}
use Rattle.image.proofs.Floats.{nodes_held, values_held, nodes_front, values_front}
use Rattle.image.proofs.Loads.{load-refused, load_made, out_kept, out_begun, nodes_fit, values_fit}
use Rattle.image.proofs.load.Goals as goal

pub returns-in-Err : goal.returns-in-Err
returns-in-Err c =
    let no = c.in-Err.ensures.fault in
    record { answer = c.from.ensures ∙ load-refused _ _ _ _ _ no; nodes_out = out_kept _ _ _ _ _ no; values_out = out_kept _ _ _ _ _ no }

pub slice_bounds-read-end-2 : goal.slice_bounds-read-end-2
slice_bounds-read-end-2 c = sym (length-take-le _ _ (nodes_fit _ _ _ _ c.in-Ok.ensures.fault c.in-Ok.ensures.held))

pub slice_bounds-read-end-4 : goal.slice_bounds-read-end-4
slice_bounds-read-end-4 c = sym (length-take-le _ _ (values_fit _ _ _ _ c.in-Ok.ensures.fault c.in-Ok.ensures.held))

pub read-requires : goal.read-requires
read-requires c =
    let held = c.in-Ok.ensures.held in
    record {
      judged = held.judged;
      nodes_room = length-take-le _ _ (nodes_fit _ _ _ _ c.in-Ok.ensures.fault held) ∙ nodes_held _ _ held;
      values_room = length-take-le _ _ (values_fit _ _ _ _ c.in-Ok.ensures.fault held) ∙ values_held _ _ held;
    }

pub returns : goal.returns
returns c =
    let yes = c.in-Ok.ensures.fault in
    let held = c.in-Ok.ensures.held in
    record {
      answer = load_made _ _ _ _ yes _ _ c.pass.ensures c.shape_of.ensures;
      nodes_out = out_begun _ _ _ _ yes _ (nodes_front _ _ held _ _ c.read.ensures.nodes);
      values_out = out_begun _ _ _ _ yes _ (values_front _ _ held _ _ c.read.ensures.values);
    }
