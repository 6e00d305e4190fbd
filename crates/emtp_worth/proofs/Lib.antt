mod Dues
mod Ends
mod Judging
mod Lines
mod Listing
mod Nearing
mod Worked
