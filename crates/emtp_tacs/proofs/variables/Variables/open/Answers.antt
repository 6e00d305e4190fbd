use Rattle.std.proofs.Common.{◌≡◌, ◌∙◌, ap, sym, subst, pos, unsigned_abs, length, replicate, All, ◌≤◌, arith}
use Rattle.std.proofs.lemmas.List.{length-replicate}
use Rattle.std.proofs.lemmas.List.Elements.{All-replicate}
use Rattle.emtp_case.specs.StepRecord.{no_device}
use Rattle.emtp_fix.specs.declared.limit.TheConstants.{LARGEST_VALUE}
use Rattle.emtp_tacs.proofs.variables.Variables.open.Goals as goal

pub returns-clause-holds : goal.returns-clause-holds
returns-clause-holds c =
    let zeros : c.in_ok-values.values.items ≡ replicate c.len.result (pos 0) = c.in_ok-values.ensures.items_if_clones_equal (λ y e. e) in
    record {
      devices = c.in_ok-devices.ensures.case;
      values = record {
        one_each = omega (arith, c.in_ok-values.ensures.len, c.in_ok-values.values.ok.0, c.len.ensures);
        small = subst (All (λ v. unsigned_abs v ≤ LARGEST_VALUE)) (sym zeros) (All-replicate (λ v. unsigned_abs v ≤ LARGEST_VALUE) c.len.result (pos 0) (omega arith));
      };
      names = c.most_names.ensures c.in_ok-names.names.items (omega (arith, c.in_ok-names.ensures.len, c.in_ok-names.names.ok.0));
    }

pub returns-clause-rest : goal.returns-clause-rest
returns-clause-rest c =
    record {
      devices = c.in_ok-devices.ensures.stands;
      devices_count = length-replicate (length c.args.case.now.parts.extras) no_device;
      values = c.in_ok-values.ensures.items_if_clones_equal (λ y e. e) ∙ ap (λ n. replicate n (pos 0)) c.len.ensures;
    }
