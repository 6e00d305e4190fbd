use Rattle.emtp_causes.proofs.Chains.{one, then, whole}
use Rattle.emtp_fields.specs.Fields.{field_text}
use Rattle.emtp_fields.proofs.fields.put_field.Goals as goal

pub returns : goal.returns
unfolding field_text
returns c = whole (then (then (then (then (then (then (then (then (then (then (one c.in_ok-put.ensures) (one c.in_ok-put_number.ensures)) (one c.in_ok-put-2.ensures)) (one c.in_ok-put_number-2.ensures)) (one c.in_ok-put-3.ensures)) (one c.in_ok-put_name.ensures)) (one c.in_ok-put-4.ensures)) (one c.in_ok-put_value.ensures)) (one c.in_ok-put-5.ensures)) (one c.in_ok-put_number_columns.ensures)) (one c.in_ok-put-6.ensures))
