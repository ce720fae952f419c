use Rattle.hv_type_judge.proofs.Deciding.{misfits_decides, other_decides, differ_decides, signature_decides, equality_decides, no_value_decides, no_handle_decides, is_handle_decides, read_only_decides, has_index_decides, struct_name_decides, no_array_decides, no_field_decides, no_function_decides, holds_decides, known_to_hold_decides}
use Rattle.hv_law_types.proofs.law.tests_say_what_the_rules_say.Goals as goal

pub returns-clause-misfits : goal.returns-clause-misfits
returns-clause-misfits c = misfits_decides

pub returns-clause-other : goal.returns-clause-other
returns-clause-other c = other_decides

pub returns-clause-differ : goal.returns-clause-differ
returns-clause-differ c = differ_decides

pub returns-clause-signature : goal.returns-clause-signature
returns-clause-signature c = signature_decides

pub returns-clause-equality : goal.returns-clause-equality
returns-clause-equality c = equality_decides

pub returns-clause-no_value : goal.returns-clause-no_value
returns-clause-no_value c = no_value_decides

pub returns-clause-no_handle : goal.returns-clause-no_handle
returns-clause-no_handle c = no_handle_decides

pub returns-clause-handle : goal.returns-clause-handle
returns-clause-handle c = is_handle_decides

pub returns-clause-read_only : goal.returns-clause-read_only
returns-clause-read_only c = read_only_decides

pub returns-clause-index : goal.returns-clause-index
returns-clause-index c = has_index_decides

pub returns-clause-struct_name : goal.returns-clause-struct_name
returns-clause-struct_name c = struct_name_decides

pub returns-clause-no_array : goal.returns-clause-no_array
returns-clause-no_array c = no_array_decides

pub returns-clause-no_field : goal.returns-clause-no_field
returns-clause-no_field c = no_field_decides

pub returns-clause-no_function : goal.returns-clause-no_function
returns-clause-no_function c = no_function_decides

pub returns-clause-holds : goal.returns-clause-holds
returns-clause-holds c = holds_decides

pub returns-clause-known_to_hold : goal.returns-clause-known_to_hold
returns-clause-known_to_hold c = known_to_hold_decides
