use Rattle.hd_session.proofs.LeavesMaps.{IsAnswer-keeps_state}
use Rattle.hd_session.proofs.laws.answer_keeps_a_state.Goals as goal

pub returns-clause-kept : goal.returns-clause-kept
returns-clause-kept c = λ s number line a s' whole is.
    IsAnswer-keeps_state (record {
      edits = c.edits_keep_maps.ensures;
      logs = c.logs_keep_maps.ensures.maps;
      back = c.undos_keep_maps.ensures.back;
      left = c.undos_keep_maps.ensures.left;
    }) s number a s' whole line is
