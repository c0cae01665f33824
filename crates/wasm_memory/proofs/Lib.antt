mod Rows
mod Tables
