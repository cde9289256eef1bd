-- All that is promised of every list of actions (specs/Theorems.antt): of the model, claim by claim, and so of code that keeps its contract.
use Rattle.model.proofs.CommitOrder.{in_commit_order}
use Rattle.model_claims.specs.Theorems.{Promised, TheModelMeets, CodeMeets}
use Rattle.model_claims.proofs.Ending.{each_ends}
use Rattle.model_claims.proofs.InTheWay.{in_the_way, seal_lets_go}
use Rattle.model_claims.proofs.OfCode.{of_code, demand3_in_the_model, serially_equal_in_the_model, within_caps_in_the_model, waits_in_the_model}

pub the_model_meets : TheModelMeets
the_model_meets φ g actions =
    record {
      demand3 = demand3_in_the_model φ g actions;
      ends = each_ends φ g actions;
      order = in_commit_order φ g actions;
      serial = serially_equal_in_the_model φ g actions;
      caps = within_caps_in_the_model φ g actions;
      in_the_way = in_the_way φ g actions;
      lets_go = seal_lets_go φ g actions;
      waits = waits_in_the_model φ g actions;
    }

pub code_meets : CodeMeets
code_meets = of_code Promised the_model_meets
