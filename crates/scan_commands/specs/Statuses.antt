-- The statuses that a run ends with: their numbers and their texts.
use Rattle.std.specs.Prelude.{ℕ, ◌==◌, if◌then◌else◌, codes, List}

-- the rows were written
abbrev pub done_status : ℕ
done_status = 0

-- the words are not those of a command
abbrev pub usage_status : ℕ
usage_status = 2

-- the request's bytes are no request
abbrev pub bad_request_status : ℕ
bad_request_status = 10

-- the request's layout breaks a rule
abbrev pub bad_layout_status : ℕ
bad_layout_status = 11

-- the projection can't be bound to the rows' dtype
abbrev pub bad_projection_status : ℕ
bad_projection_status = 12

-- a selected row is past the last row
abbrev pub row_out_of_range_status : ℕ
row_out_of_range_status = 13

-- the row offset leads past the greatest row number
abbrev pub row_offset_overflow_status : ℕ
row_offset_overflow_status = 14

-- the rows have lists
abbrev pub lists_unsupported_status : ℕ
lists_unsupported_status = 15

-- a segment has no location
abbrev pub no_location_status : ℕ
no_location_status = 16

-- a segment's bytes spell no values
abbrev pub bad_segment_status : ℕ
bad_segment_status = 17

-- a code names no value of its dictionary
abbrev pub bad_code_status : ℕ
bad_code_status = 18

-- the projection has no value at a row
abbrev pub expression_fault_status : ℕ
expression_fault_status = 19

-- a read of the segments failed
abbrev pub read_fault_status : ℕ
read_fault_status = 20

-- a read of the segments made no progress
abbrev pub stalled_status : ℕ
stalled_status = 21

-- a write failed
abbrev pub write_fault_status : ℕ
write_fault_status = 22

-- a read of the request failed
abbrev pub request_fault_status : ℕ
request_fault_status = 23

-- the request has too many bytes
abbrev pub request_too_large_status : ℕ
request_too_large_status = 24

-- the layout's readers can't answer the request
abbrev pub not_readable_status : ℕ
not_readable_status = 25

-- memory ran out
abbrev pub memory_status : ℕ
memory_status = 70

-- ---- texts

abbrev pub text_of_status : ℕ → List ℕ
text_of_status status =
    if status == done_status then codes "ok" else (
    if status == usage_status then codes "usage" else (
    if status == bad_request_status then codes "bad request" else (
    if status == bad_layout_status then codes "bad layout" else (
    if status == bad_projection_status then codes "bad projection" else (
    if status == row_out_of_range_status then codes "row out of range" else (
    if status == row_offset_overflow_status then codes "row offset overflow" else (
    if status == lists_unsupported_status then codes "list rows are unsupported" else (
    if status == no_location_status then codes "segment without location" else (
    if status == bad_segment_status then codes "bad segment" else (
    if status == bad_code_status then codes "bad code" else (
    if status == expression_fault_status then codes "expression fault" else (
    if status == read_fault_status then codes "read fault" else (
    if status == stalled_status then codes "stalled" else (
    if status == write_fault_status then codes "write fault" else (
    if status == request_fault_status then codes "request fault" else (
    if status == request_too_large_status then codes "request too large" else (
    if status == not_readable_status then codes "not readable by layout readers" else (
    if status == memory_status then codes "out of memory" else codes "unknown status"))))))))))))))))))
